-- A newline ends the half line, and other bytes go on with it.
use Rattle.std.proofs.Common.{◌≡◌, ℕ, List, [], ◌∷◌, ◌++◌, refl, arith, append_assoc}
use Rattle.std.proofs.lemmas.Grind.{common_steps}
use Rattle.byte_lines.specs.Lines.{newline, HasNoNewline, lines_after, half_after}
use Rattle.byte_lines.specs.Laws.{LinesGrow}

line_ends : (half line text : List ℕ) → HasNoNewline line → lines_after half (line ++ newline ∷ text) ≡ (half ++ line) ∷ lines_after [] text
line_ends half [] text h = grind (arith, common_steps)
line_ends half (b ∷ line) text h = grind (arith, common_steps, append_assoc, line_ends (half ++ b ∷ []) line text)

half_ends : (half line text : List ℕ) → HasNoNewline line → half_after half (line ++ newline ∷ text) ≡ half_after [] text
half_ends half [] text h = grind (arith, common_steps)
half_ends half (b ∷ line) text h = grind (arith, common_steps, half_ends (half ++ b ∷ []) line text)

no_line : (half more : List ℕ) → HasNoNewline more → lines_after half more ≡ []
no_line half [] h = refl
no_line half (b ∷ more) h = grind (arith, common_steps, no_line (half ++ b ∷ []) more)

half_grows : (half more : List ℕ) → HasNoNewline more → half_after half more ≡ half ++ more
half_grows half [] h = grind (arith, common_steps)
half_grows half (b ∷ more) h = grind (arith, common_steps, append_assoc, half_grows (half ++ b ∷ []) more)

pub grow : LinesGrow
grow = record { ended = line_ends; begun = half_ends; same = no_line; longer = half_grows }
