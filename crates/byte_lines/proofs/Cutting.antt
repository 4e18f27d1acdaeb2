-- A text may be cut anywhere.
use Rattle.std.proofs.Common.{◌≡◌, ℕ, List, [], ◌∷◌, ◌++◌, map, refl, ap, sym, ◌∙◌, arith}
use Rattle.std.proofs.lemmas.Grind.{common_steps}
use Rattle.std.proofs.lemmas.List.{map-append}
use Rattle.byte_lines.specs.Lines.{lines_after, half_after, whole_lines, half_line}
use Rattle.byte_lines.specs.Kept.{Kept, kept, Reads, ReadsOn}
use Rattle.byte_lines.specs.Laws.{LinesAreCut}

pub lines_cut : (half xs ys : List ℕ) → lines_after half (xs ++ ys) ≡ lines_after half xs ++ lines_after (half_after half xs) ys
lines_cut half [] ys = refl
lines_cut half (b ∷ xs) ys = grind (arith, common_steps, lines_cut [] xs ys, lines_cut (half ++ b ∷ []) xs ys)

pub half_cut : (half xs ys : List ℕ) → half_after half (xs ++ ys) ≡ half_after (half_after half xs) ys
half_cut half [] ys = refl
half_cut half (b ∷ xs) ys = grind (arith, common_steps, half_cut [] xs ys, half_cut (half ++ b ∷ []) xs ys)

pub are_cut : LinesAreCut
are_cut = record { lines = lines_cut; half = half_cut }

-- a reader that stood after bytes has then read more
pub reads_on : {X : Type 0} (n : ℕ) (reading : List ℕ → X) (old new : Kept) (more : List ℕ) (said : List X)
    → Reads n reading old new more said → ReadsOn n reading old new more said
reads_on n reading old new more said reads bytes stands =
    let half = half_line bytes in
    let kept_now : new ≡ kept n (half_line (bytes ++ more)) = reads.half half stands ∙ ap (kept n) (sym (half_cut [] bytes more)) in
    let lines : map reading (whole_lines (bytes ++ more)) ≡ map reading (whole_lines bytes) ++ said =
    ap (map reading) (lines_cut [] bytes more) ∙ map-append reading (whole_lines bytes) (lines_after half more)
    ∙ ap (λ ys. map reading (whole_lines bytes) ++ ys) (sym (reads.lines half stands)) in
    (kept_now, lines)
