use Rattle.std.proofs.Common.{◌≡◌, drop, fold, map}
use Rattle.layers.specs.euler_ring.Tour.{tour}
use Rattle.layers.specs.Stops.{stop_of, IsOnTree, GoesRound, first_stop}
use Rattle.run_recording.specs.Visits.{with_new, first_visits}
use Rattle.run_recording.proofs.tour.first_visits.Given as goal

-- the tour goes on along the stops that are left, and their nodes are still to be added
abbrev pub invariant-loop : goal.invariant-loop
invariant-loop l =
    IsOnTree l.net (stop_of l.stop)
    × GoesRound l.net (stop_of l.stop) (first_stop l.net) (drop l.counter (tour l.net))
    × (fold with_new l.order.items (map (λ stop. stop.1) (drop l.counter (tour l.net))) ≡ first_visits l.net)
