-- A usual line in front of a piece is taken as any other line is, and nothing of it is kept.
use Rattle.std.proofs.Common.{◌≡◌, ℕ, suc, ◌+◌, ◌-◌, List, [], ◌∷◌, ◌++◌, length, take, map, ap, sym, ◌∙◌, arith}
use Rattle.std.proofs.lemmas.List.{length-append, map-append}
use Rattle.std.proofs.Math.Seq.{take-append-add}
use Rattle.byte_lines.specs.Lines.{newline, HasNoNewline, lines_after, half_after, whole_lines, half_line}
use Rattle.byte_lines.specs.Kept.{Kept, kept, StandsAfter}
use Rattle.byte_lines.specs.Laws.{LinesAreCut, LinesGrow}
use Rattle.events_text.specs.EventsText.{text_line, ended_lines}

-- the bytes in front of the rest
pub in_front : (line rest piece : List ℕ) → piece ≡ line ++ newline ∷ rest → take (length piece - length rest) piece ≡ line ++ newline ∷ []
in_front line rest piece is =
    let all : length piece ≡ length line + suc (length rest) = ap length is ∙ length-append line (newline ∷ rest) in
    let used : length piece - length rest ≡ length line + 1 = omega (arith, all) in
    ap (λ n. take n piece) used ∙ ap (take (length line + 1)) is ∙ take-append-add line (newline ∷ rest) 1

module _ (cut : LinesAreCut) (grow : LinesGrow) (bytes line : List ℕ) (none : half_line bytes ≡ []) (one : HasNoNewline line) where
  pub stands_after : (k : Kept) → k ≡ kept 64 [] → StandsAfter 64 (bytes ++ (line ++ newline ∷ [])) k
  stands_after k empty =
      empty ∙ ap (kept 64) (sym (cut.half [] bytes (line ++ newline ∷ []) ∙ ap (λ half. half_after half (line ++ newline ∷ [])) none
      ∙ grow.begun [] line [] one))

  pub line_said : ended_lines (bytes ++ (line ++ newline ∷ [])) ≡ ended_lines bytes ++ text_line line ∷ []
  line_said =
      ap (map text_line) (cut.lines [] bytes (line ++ newline ∷ []))
      ∙ map-append text_line (whole_lines bytes) (lines_after (half_line bytes) (line ++ newline ∷ []))
      ∙ ap (λ lines. ended_lines bytes ++ map text_line lines) (ap (λ half. lines_after half (line ++ newline ∷ [])) none ∙ grow.ended [] line [] one)
