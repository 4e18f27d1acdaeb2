-- Why the words of a command are invalid: what several commands share.
use Rattle.std.specs.Prelude.{◌≡◌, ℕ, List, None, codes}
use Rattle.clap.specs.Matches.{first_value}
use Rattle.clap.specs.declared.parser.matches.Found.{Found}
use Rattle.command_grammar.specs.Given.{IsRefused}
use Rattle.command_grammar.specs.declared.words.WordFault.TheVariants.{Absent}
use Rattle.command_words.specs.declared.refusal.Refusal.{Refusal}
use Rattle.command_words.specs.declared.refusal.Refusal.TheVariants.{Word}

-- the parameter of this id has no word
abbrev pub IsMissing : Found → List ℕ → Refusal → Type 0
IsMissing found id (Word (Absent missing)) = (missing.now ≡ id) × (first_value found id ≡ None)
IsMissing found id _ = ⊥

-- the word of ID is no number from 0 to 65535
abbrev pub IsIdRefused : Found → Refusal → Type 0
IsIdRefused found (Word fault) = IsRefused found (codes "ID") 0 65535 fault
IsIdRefused found _ = ⊥
