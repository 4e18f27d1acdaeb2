-- What a part of a picture adds to a drawing.
use Rattle.std.specs.Prelude.{◌≡◌, ℕ, suc, List, [], ◌∷◌, ◌++◌}
use Rattle.svg_drawing.specs.Drawn.{Shown}

-- for a part given by a relation: after the elements that were there before there are some more,
-- for which the relation holds, and no others
abbrev pub Adds : (List Shown → Type 0) → List Shown → List Shown → Type 0
Adds Are old new = (more : List Shown) × Are more × (new ≡ old ++ more)

-- what stands over columns from left to right, or in lanes from the top; the first of them stands
-- at a given place
abbrev pub over_each : {X Y : Type 0} → (ℕ → X → List Y) → ℕ → List X → List Y
over_each over place [] = []
over_each over place (x ∷ xs) = over place x ++ over_each over (suc place) xs
