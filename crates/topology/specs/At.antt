-- A function of node ids, changed at one place.
use Rattle.std.specs.Prelude.{ℕ, ◌==◌, if◌then◌else◌}

-- f, with x at k
abbrev pub at : {X : Type 0} → (ℕ → X) → ℕ → X → ℕ → X
at f k x i = if i == k then x else f i
