-- What is drawn, element by element.
use Rattle.std.proofs.Common.{◌≡◌, List, [], ◌∷◌, ◌++◌, Result, OnOk, subst}
use Rattle.svg_drawing.specs.Drawn.{Shown}

-- what was added is what is shown
pub shown_as : {T E : Type 0} (result : Result T E) (now before : List Shown) (added shown : Shown) → added ≡ shown
    → OnOk result (now ≡ before ++ added ∷ []) → OnOk result (now ≡ before ++ shown ∷ [])
shown_as result now before added shown is there = subst (λ s. OnOk result (now ≡ before ++ s ∷ [])) is there
