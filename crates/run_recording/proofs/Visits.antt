-- The order in which the tour of the tree first reaches the nodes.
use Rattle.std.proofs.Common.{◌≡◌, ap, sym, ℕ, zero, suc, ◌<◌, List, [], ◌∷◌, length, drop, map, fold, arith}
use Rattle.std.proofs.lemmas.Grind.{common_steps}
use Rattle.topology.specs.Network.{Network}
use Rattle.layers.specs.euler_ring.Tour.{Stop}
use Rattle.layers.specs.euler_ring.Laws.{stop_after}
use Rattle.layers.specs.Stops.{GoesRound}
use Rattle.run_recording.specs.Visits.{with_new}

-- after one more stop, its node is added at the end, unless it is already there
pub passes : (net : Network) (order : List ℕ) (stop end : Stop) (stops : List Stop) (i : ℕ) → i < length stops → GoesRound net stop end (drop i stops)
    → (fold with_new order (map (λ s. s.1) (drop i stops)) ≡ fold with_new (with_new order stop.1) (map (λ s. s.1) (drop (suc i) stops)))
    × GoesRound net (stop_after net stop) end (drop (suc i) stops)
passes net order stop end [] i within along = grind (arith, common_steps)
passes net order stop end (next ∷ stops) zero within along =
    (ap (λ s. fold with_new (with_new order s.1) (map (λ t. t.1) stops)) (sym along.0), along.1)
passes net order stop end (next ∷ stops) (suc i) within along = passes net order stop end stops i (omega (arith, within)) along

-- after the last stop none is left
pub none_left : (order : List ℕ) (stops : List Stop) (i : ℕ) → length stops ≡ i → fold with_new order (map (λ s. s.1) (drop i stops)) ≡ order
none_left order [] i all = grind (arith, common_steps)
none_left order (next ∷ stops) zero all = grind (arith, common_steps)
none_left order (next ∷ stops) (suc i) all = none_left order stops i (omega (arith, all))
