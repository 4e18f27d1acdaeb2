-- What holds of the tour, and of the node's own view of it.
use Rattle.std.specs.Prelude.{◌≡◌, ℕ, ◌-◌, ◌*◌, ◌<◌, ◌⊎◌, ◌↔◌, true, IsTrue, List, [], ◌∷◌, length, Option, Some}
use Rattle.std.specs.List.Sorted.{IsStrictlyIncreasing}
use Rattle.topology.specs.Network.{Network, are_joined, neighbours_of, IsAcceptedNetwork}
use Rattle.topology.specs.Tree.{parent_of}
use Rattle.euler_ring.specs.Cycle.{is_on, tree_neighbours, next_after, source_for, special}
use Rattle.euler_ring.specs.Tour.{Stop, tour}

-- ---- round one node

-- next and source undo each other, round any ascending list
abbrev pub SourceOfNext : Type 0
SourceOfNext =
    (ts : List ℕ) (t : ℕ) → IsStrictlyIncreasing ts → IsTrue (is_on ts t)
    → source_for ts (next_after ts t) ≡ t

abbrev pub NextOfSource : Type 0
NextOfSource =
    (ts : List ℕ) (w : ℕ) → IsStrictlyIncreasing ts → IsTrue (is_on ts w)
    → next_after ts (source_for ts w) ≡ w

-- and stay on the list
abbrev pub NextIsOn : Type 0
NextIsOn = (ts : List ℕ) (t : ℕ) → IsTrue (is_on ts t) → IsTrue (is_on ts (next_after ts t))

abbrev pub SourceIsOn : Type 0
SourceIsOn = (ts : List ℕ) (w : ℕ) → IsTrue (is_on ts w) → IsTrue (is_on ts (source_for ts w))

-- ---- the true tree neighbours

-- the tree neighbours of v if v and its neighbours name their true parents
abbrev pub true_neighbours : Network → ℕ → List ℕ
true_neighbours net v = tree_neighbours (parent_of net v) v (neighbours_of net v) (parent_of net)

-- an edge of the true tree joins the two: one is the other's true parent
abbrev pub IsTreeEdge : Network → ℕ → ℕ → Type 0
IsTreeEdge net v w = (parent_of net v ≡ Some w) ⊎ (parent_of net w ≡ Some v)

-- they are the nodes to which an edge of the true tree leads, ascending
abbrev pub TrueNeighboursAre : Type 0
TrueNeighboursAre =
    (net : Network) (v w : ℕ) → IsAcceptedNetwork net → IsTrue (is_on (true_neighbours net v) w)
    ↔ IsTreeEdge net v w

abbrev pub TrueNeighboursAscend : Type 0
TrueNeighboursAscend = (net : Network) (v : ℕ) → IsStrictlyIncreasing (true_neighbours net v)

-- if v knows its true parent and has copied those of its neighbours, its own tree neighbours are
-- the true ones
abbrev pub OwnViewIsTrue : Type 0
OwnViewIsTrue =
    (net : Network) (v : ℕ) (parent : Option ℕ) (copied_parent : ℕ → Option ℕ)
    → IsAcceptedNetwork net → parent ≡ parent_of net v
    → ((w : ℕ) → IsTrue (are_joined net.edges v w) → copied_parent w ≡ parent_of net w)
    → tree_neighbours parent v (neighbours_of net v) copied_parent ≡ true_neighbours net v

-- ---- the tour

-- the stop that follows, by the view of the node that the tour has come to
abbrev pub stop_after : Network → Stop → Stop
stop_after net p = (p.1, next_after (true_neighbours net p.1) p.0)

-- each stop of a stretch follows from the one before, and `end` from the last
abbrev pub GoesTo : Network → Stop → List Stop → Type 0
GoesTo net end [] = Unit {0}
GoesTo net end (p ∷ []) = stop_after net p ≡ end
GoesTo net end (p ∷ q ∷ rest) = (stop_after net p ≡ q) × GoesTo net end (q ∷ rest)

-- the stop is one of the list
abbrev pub IsStopOf : List Stop → Stop → Type 0
IsStopOf [] s = ⊥
IsStopOf (p ∷ ps) s = (s ≡ p) ⊎ IsStopOf ps s

-- no stop occurs twice
abbrev pub NoStopTwice : List Stop → Type 0
NoStopTwice [] = Unit {0}
NoStopTwice (p ∷ ps) = ¬ IsStopOf ps p × NoStopTwice ps

-- the tour begins at the special machine, and goes round: from its last stop to its first
pub record IsRound (net : Network) : Type 0 where
  pub child : ℕ
  pub rest : List Stop
  pub begins : tour net ≡ (child, net.root) ∷ rest
  pub special : special true (true_neighbours net net.root) ≡ Some child
  pub round : GoesTo net (child, net.root) (tour net)

abbrev pub TourGoesRound : Type 0
TourGoesRound = (net : Network) → IsAcceptedNetwork net → IsRound net

-- it goes along each edge of the true tree once in each direction, and nowhere else
abbrev pub TourHasEachEdge : Type 0
TourHasEachEdge =
    (net : Network) (a b : ℕ) → IsAcceptedNetwork net → IsStopOf (tour net) (a, b)
    ↔ IsTreeEdge net a b

abbrev pub TourHasNoneTwice : Type 0
TourHasNoneTwice = (net : Network) → IsAcceptedNetwork net → NoStopTwice (tour net)

-- so it has two stops for each node but the root
abbrev pub TourLength : Type 0
TourLength = (net : Network) → IsAcceptedNetwork net → length (tour net) ≡ 2 * (net.nodes - 1)

-- and comes to each node
abbrev pub TourComesToEach : Type 0
TourComesToEach =
    (net : Network) (v : ℕ) → IsAcceptedNetwork net → v < net.nodes
    → (a : ℕ) × IsStopOf (tour net) (a, v)
