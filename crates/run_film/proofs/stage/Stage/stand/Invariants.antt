use Rattle.std.proofs.Common.{◌≡◌, ℕ}
use Rattle.run_film.specs.Places.{place_in}
use Rattle.run_film.proofs.stage.Stage.stand.Given as goal

-- no node has another height
abbrev pub invariant-loop-v : goal.invariant-loop-v
invariant-loop-v l = (u : ℕ) → (place_in l.self u).y ≡ (place_in l.fn.self u).y
