-- A text is its lines, each with its newline, and then its half line.
use Rattle.std.proofs.Common.{◌≡◌, ◌≢◌, ℕ, List, [], ◌∷◌, ◌++◌, arith, append_assoc, append-nil, flat_map}
use Rattle.std.proofs.lemmas.Grind.{common_steps}
use Rattle.std.specs.List.{AllByRecursion}
use Rattle.byte_lines.specs.Lines.{newline, HasNoNewline, lines_after, half_after}
use Rattle.byte_lines.specs.Laws.{IsItsLines}

-- a line grows by a byte that is no newline
one_more : (line : List ℕ) (b : ℕ) → HasNoNewline line → b ≢ newline → HasNoNewline (line ++ b ∷ [])
one_more [] b h other = (other, tt)
one_more (x ∷ xs) b (first, h) other = (first, one_more xs b h other)

whole_text : (half text : List ℕ) → half ++ text ≡ flat_map (λ line. line ++ newline ∷ []) (lines_after half text) ++ half_after half text
whole_text half [] = append-nil half
whole_text half (b ∷ text) = grind (arith, common_steps, append_assoc, whole_text [] text, whole_text (half ++ b ∷ []) text)

no_newlines : (half text : List ℕ) → HasNoNewline half → AllByRecursion HasNoNewline (lines_after half text) × HasNoNewline (half_after half text)
no_newlines half [] h = (tt, h)
no_newlines half (b ∷ text) h = grind (arith, common_steps, one_more half b h, no_newlines [] text, no_newlines (half ++ b ∷ []) text)

pub is_its_lines : (text : List ℕ) → IsItsLines text
is_its_lines text = let (lines, half) = no_newlines [] text tt in record { whole = whole_text [] text; lines = lines; half = half }
