-- A line that is drawn byte by byte.
use Rattle.std.proofs.Common.{suc, ◌≡◌, ◌<◌, ◌+◌, ◌++◌, ℕ, List, [], ◌∷◌, length, take, refl, ap, sym, ◌∙◌, slice_set, append_assoc}
use Rattle.std.proofs.lemmas.List.{take_more_set}
use Rattle.rand_pcg.specs.Lcg.{Lcg}
use Rattle.damage_tool.specs.Draws.{draw, draw_bytes}

-- the bytes at the front are drawn, and as many as are left go after them
abbrev pub bytes_at : ℕ → ℕ → List ℕ → Lcg → List ℕ × Lcg
bytes_at left at line g = (take at line ++ (draw_bytes left g).0, (draw_bytes left g).1)

-- one more is drawn
pub byte_more : (left at b : ℕ) (line : List ℕ) (g g2 : Lcg) → at < length line → b ≡ (draw 94 g).0 → g2 ≡ (draw 94 g).1
    → bytes_at (suc left) at line g ≡ bytes_at left (at + 1) (slice_set line at (33 + b)) g2
byte_more left at b line g g2 below b_is g_is =
    let byte : ℕ = 33 + (draw 94 g).0 in
    let rest = draw_bytes left (draw 94 g).1 in
    let done : take (at + 1) (slice_set line at (33 + b)) ≡ take at line ++ (33 + b) ∷ [] = take_more_set line at (33 + b) below in
    let after : bytes_at left (at + 1) (slice_set line at (33 + b)) g2 ≡ ((take at line ++ byte ∷ []) ++ rest.0, rest.1) = rw (done, b_is, g_is) refl in
    ap (λ ys. (ys, rest.1)) (sym (append_assoc (take at line) (byte ∷ []) rest.0)) ∙ sym after
