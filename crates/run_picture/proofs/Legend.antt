-- The legend, sign by sign.
use Rattle.std.proofs.Common.{◌≡◌, ◌∙◌, ap, ℕ, ◌+◌, List, [], ◌∷◌, ◌++◌, append_assoc}
use Rattle.svg_drawing.specs.declared.canvas.Anchor.TheVariants.{Start}
use Rattle.svg_drawing.specs.declared.colours.Colour.TheVariants.{Ink}
use Rattle.run_picture.specs.declared.layout.legend.Sign.{Sign}
use Rattle.svg_drawing.specs.Drawn.{Shown, words_shown}
use Rattle.run_picture.specs.Legend.{Meaning, sign_shown, room_of, later, meanings_shown}
use Rattle.svg_drawing.specs.Lengths.{px}

-- a sign with its meaning, and after it others
pub first_meaning : (x y next_x next_y : ℕ) (sign : Sign) (words : List ℕ) (meanings : List Meaning) (old now new : List Shown)
    → now ≡ old ++ (sign_shown x y sign ∷ words_shown (px (x + room_of sign)) y Start Ink words ∷ [])
    → next_x ≡ later (px (x + room_of sign)) words → next_y ≡ y → new ≡ now ++ meanings_shown next_x next_y meanings
    → new ≡ old ++ meanings_shown x y (record { sign = sign; words = words } ∷ meanings)
first_meaning x y next_x next_y sign words meanings old now new is is_x is_y others =
    let first = sign_shown x y sign ∷ words_shown (px (x + room_of sign)) y Start Ink words ∷ [] in
    others ∙ ap (λ k. now ++ meanings_shown k next_y meanings) is_x
    ∙ ap (λ k. now ++ meanings_shown (later (px (x + room_of sign)) words) k meanings) is_y
    ∙ ap (λ xs. xs ++ meanings_shown (later (px (x + room_of sign)) words) y meanings) is
    ∙ append_assoc old first (meanings_shown (later (px (x + room_of sign)) words) y meanings)
