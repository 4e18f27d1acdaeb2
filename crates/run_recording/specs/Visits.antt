-- The order in which the Euler tour of the true tree first reaches the nodes: the preorder of the
-- tree from the root, with the children of each node in the order of the tour.
use Rattle.std.specs.Prelude.{ℕ, List, [], ◌∷◌, ◌++◌, if◌then◌else◌, fold, map}
use Rattle.topology.specs.Network.{Network}
use Rattle.layers.specs.euler_ring.Cycle.{is_on}
use Rattle.layers.specs.euler_ring.Tour.{tour}

-- a node is added at the end, unless it is already there
abbrev pub with_new : List ℕ → ℕ → List ℕ
with_new order v = if is_on order v then order else order ++ v ∷ []

-- each item of a list once, at its first place
abbrev pub first_of_each : List ℕ → List ℕ
first_of_each items = fold with_new [] items

-- the nodes, in the order in which the tour first reaches them
abbrev pub first_visits : Network → List ℕ
first_visits net = first_of_each (map (λ stop. stop.1) (tour net))
