-- The outline of a lane goes on, column by column.
use Rattle.std.proofs.Common.{◌≡◌, ◌∙◌, ap, ℕ, List, ◌++◌, length, take, map, append_assoc, codes, decimal}
use Rattle.run_recording.specs.layers.declared.whole.Layers.{Layers}
use Rattle.run_picture.specs.declared.layout.page.Page.{Page}
use Rattle.run_picture.specs.Settled.{settled_from, settled_step, settled_steps}
use Rattle.run_picture.proofs.Over.{over_all_of}

-- six texts, in either grouping
six_texts : (a b c d e f : List ℕ) → ((a ++ (b ++ (c ++ d))) ++ e) ++ f ≡ a ++ (b ++ (c ++ (d ++ (e ++ f))))
six_texts a b c d e f =
    append_assoc (a ++ (b ++ (c ++ d))) e f ∙ append_assoc a (b ++ (c ++ d)) (e ++ f)
    ∙ ap (λ xs. a ++ xs) (append_assoc b (c ++ d) (e ++ f) ∙ ap (λ xs. b ++ xs) (append_assoc c d (e ++ f)))

-- after the last column the outline goes down again, and is closed
pub outline_closed : (page : Page) (base : ℕ) (f : Layers → ℕ) (states : List Layers) (place : ℕ) (start text all : List ℕ)
    → length states ≡ place
    → start ≡ codes "M" ++ (decimal page.left.0 ++ (codes " " ++ decimal base))
    → text ≡ start ++ settled_from page base 0 (take place (map f states))
    → all ≡ text ++ (codes "V" ++ (decimal base ++ codes "z")) → all ≡ settled_steps page base (map f states)
outline_closed page base f states place start text all ended begins is closed =
    let steps = settled_from page base 0 (map f states) in
    let end = codes "V" ++ (decimal base ++ codes "z") in
    closed
    ∙ ap (λ xs. xs ++ end)
    (over_all_of (settled_step page base) f states place start text ended is ∙ ap (λ xs. xs ++ steps) begins)
    ∙ six_texts (codes "M") (decimal page.left.0) (codes " ") (decimal base) steps end
