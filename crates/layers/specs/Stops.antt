-- The stops of the Euler tour as code goes along them.
use Rattle.std.specs.Prelude.{◌≡◌, ℕ, ◌<◌, IsTrue, List, [], ◌∷◌}
use Rattle.topology.specs.Network.{Network}
use Rattle.euler_ring.specs.Cycle.{is_on}
use Rattle.euler_ring.specs.Tour.{Stop, tour}
use Rattle.euler_ring.specs.Laws.{true_neighbours, stop_after}
use Rattle.layers.specs.declared.tour.TourStop.{TourStop}

-- a stop as the tour has it
abbrev pub stop_of : TourStop → Stop
stop_of stop = (stop.from, stop.here)

-- a stop comes to a node, from another node, along an edge of the true tree
abbrev pub IsOnTree : Network → Stop → Type 0
IsOnTree net stop = (stop.0 < net.nodes) × (stop.1 < net.nodes) × IsTrue (is_on (true_neighbours net stop.1) stop.0)

-- From this stop on, the tour goes along these stops, and after the last of them it is at `end`.
abbrev pub GoesRound : Network → Stop → Stop → List Stop → Type 0
GoesRound net stop end [] = stop ≡ end
GoesRound net stop end (next ∷ stops) = (stop ≡ next) × GoesRound net (stop_after net stop) end stops

-- the first of some stops
abbrev pub first_of : List Stop → Stop
first_of [] = (0, 0)
first_of (stop ∷ stops) = stop

-- the first stop of a network's tour
abbrev pub first_stop : Network → Stop
first_stop net = first_of (tour net)
