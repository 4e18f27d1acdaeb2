-- Elements one over the other.
use Rattle.std.proofs.Common.{◌≡◌, ◌∙◌, ap, List, [], ◌∷◌, ◌++◌, Result, Ok, Err, OnOk, append_assoc}
use Rattle.svg_drawing.specs.Drawn.{Shown}

four : {X : Type 0} (x₀ x₁ x₂ x₃ x₄ a b c d : List X) → x₁ ≡ x₀ ++ a → x₂ ≡ x₁ ++ b → x₃ ≡ x₂ ++ c → x₄ ≡ x₃ ++ d
    → x₄ ≡ x₀ ++ (a ++ (b ++ (c ++ d)))
four x₀ x₁ x₂ x₃ x₄ a b c d i₁ i₂ i₃ i₄ =
    i₄ ∙ ap (λ x. x ++ d) i₃ ∙ append_assoc x₂ c d ∙ ap (λ x. x ++ (c ++ d)) i₂ ∙ append_assoc x₁ b (c ++ d)
    ∙ ap (λ x. x ++ (b ++ (c ++ d))) i₁ ∙ append_assoc x₀ a (b ++ (c ++ d))

-- the last of five elements
pub five_shown : {T E : Type 0} (result : Result T E) (x₀ x₁ x₂ x₃ x₄ x₅ : List Shown) (a b c d e : Shown) → x₁ ≡ x₀ ++ a ∷ [] → x₂ ≡ x₁ ++ b ∷ []
    → x₃ ≡ x₂ ++ c ∷ [] → x₄ ≡ x₃ ++ d ∷ [] → OnOk result (x₅ ≡ x₄ ++ e ∷ []) → OnOk result (x₅ ≡ x₀ ++ a ∷ b ∷ c ∷ d ∷ e ∷ [])
five_shown (Ok value) x₀ x₁ x₂ x₃ x₄ x₅ a b c d e i₁ i₂ i₃ i₄ added =
    added ∙ ap (λ x. x ++ e ∷ []) (four x₀ x₁ x₂ x₃ x₄ (a ∷ []) (b ∷ []) (c ∷ []) (d ∷ []) i₁ i₂ i₃ i₄)
    ∙ append_assoc x₀ (a ∷ b ∷ c ∷ d ∷ []) (e ∷ [])
five_shown (Err fault) x₀ x₁ x₂ x₃ x₄ x₅ a b c d e i₁ i₂ i₃ i₄ added = added
