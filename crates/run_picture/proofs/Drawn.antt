-- What is drawn, item by item.
use Rattle.std.proofs.Common.{◌≡◌, ◌∙◌, ap, sym, ℕ, suc, ◌+◌, ◌<◌, List, [], ◌∷◌, ◌++◌, length, take, slice_index_or, append_assoc, arith}
use Rattle.std.specs.List.{flat_map}
use Rattle.std.proofs.lemmas.List.{append-nil}
use Rattle.std.proofs.lemmas.Grind.{flat_map-append}
use Rattle.std.proofs.Math.Seq.{take-suc}
use Rattle.svg_drawing.specs.Drawn.{Shown}

-- after what the first items show, the next one is drawn
pub shown_next : {X : Type 0} (show : X → List Shown) (items : List X) (place : ℕ) (d : X) (start before after : List Shown) → place < length items
    → before ≡ start ++ flat_map show (take place items) → after ≡ before ++ show (slice_index_or items place d)
    → after ≡ start ++ flat_map show (take (place + 1) items)
shown_next show items place d start before after within so_far added =
    let item = slice_index_or items place d in
    let next : place + 1 ≡ suc place = omega arith in
    let single : flat_map show (item ∷ []) ≡ show item = append-nil (show item) in
    added ∙ ap (λ xs. xs ++ show item) so_far ∙ append_assoc start (flat_map show (take place items)) (show item)
    ∙ ap (λ xs. start ++ xs)
    (ap (λ xs. flat_map show (take place items) ++ xs) (sym single)
    ∙ sym (flat_map-append show (take place items) (item ∷ []))
    ∙ ap (flat_map show) (sym (take-suc items place d within))
    ∙ ap (λ k. flat_map show (take k items)) (sym next))
