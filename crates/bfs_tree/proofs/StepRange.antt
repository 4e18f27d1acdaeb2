-- One step of the tree leaves distance and parent in their ranges.
use Rattle.std.proofs.Common.{ℕ, ◌<◌, Bool, true, false, IsTrue, List, [], ◌∷◌, refl, arith, find}
use Rattle.std.specs.List.{All}
use Rattle.std.proofs.lemmas.Grind.{common_steps}
use Rattle.std.proofs.lemmas.Bool.Decides.{nat_tests}
use Rattle.std.proofs.lemmas.List.Elements.{All-head, All-tail}
use Rattle.topology.specs.Ranges.{parent_fits}
use Rattle.bfs_tree.specs.Step.{has_least_copy}
use Rattle.bfs_tree.specs.Laws.{StepDistanceFits, StepParentFits}

pub distance-fits : StepDistanceFits
distance-fits true n copied ws = omega arith
distance-fits false n copied ws = omega arith

found-fits : (n : ℕ) (test : ℕ → Bool) (ws : List ℕ) → All (λ w. w < n) ws → IsTrue (parent_fits n (find test ws))
found-fits n test [] inside = refl
found-fits n test (w ∷ ws) inside =
    let below = All-head (λ v. v < n) w ws inside in
    let rest = found-fits n test ws (All-tail (λ v. v < n) w ws inside) in
    grind (arith, common_steps, nat_tests)

pub parent-fits : StepParentFits
parent-fits true n copied ws inside = refl
parent-fits false n copied ws inside = found-fits n (has_least_copy copied ws) ws inside
