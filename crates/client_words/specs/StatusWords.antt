-- What the words of `status` and `stop` ask for.
use Rattle.std.specs.Prelude.{◌≡◌, ◌≢◌, ◌≤◌, ℕ, true, false, List, Option, Some, None, map, decimal, slice_get, codes}
use Rattle.std.specs.Option.{option_map}
use Rattle.std.specs.Borrow.{Bor}
use Rattle.clap.specs.Matches.{first_value}
use Rattle.clap.specs.declared.parser.matches.Found.{Found}
use Rattle.command_grammar.specs.Given.{IsFlag}
use Rattle.command_grammar.specs.declared.words.WordFault.TheVariants.{NoNumber}
use Rattle.command_faults.specs.declared.fault.Fault.TheVariants.{Memory}
use Rattle.client_words.specs.Words.{texts}
use Rattle.client_words.specs.Interval.{interval}
use Rattle.command_words.specs.declared.refusal.Refusal.{Refusal}
use Rattle.command_words.specs.declared.refusal.Refusal.TheVariants.{Word, Fault}
use Rattle.client_words.specs.declared.status.ShownStatus.{ShownStatus}
use Rattle.client_words.specs.declared.status.ShownStatus.TheVariants as shown
use Rattle.status_command.specs.declared.AnswerForm.{AnswerForm}
use Rattle.status_command.specs.declared.AnswerForm.TheVariants.{Json, Lines}
use Rattle.status_command.specs.declared.LinePart.TheVariants.{Links, Premises}

-- the words are the decimal spellings of these ids, in the same order
abbrev pub AreIds : List (Bor (List ℕ)) → List ℕ → Type 0
AreIds words ids = texts words ≡ map decimal ids

-- memory ran out; or one of the words is not the decimal spelling of a number up to 65535
abbrev pub AreIdsRefused : List (Bor (List ℕ)) → Refusal → Type 0
AreIdsRefused words (Fault fault) = fault ≡ Memory
AreIdsRefused words (Word (NoNumber asked)) =
    (asked.id.now ≡ codes "ID")
    × ((at : ℕ) × (word : List ℕ) × (slice_get (texts words) at ≡ Some word) × ((id : ℕ) → id ≤ 65535 → word ≢ decimal id))
AreIdsRefused words _ = ⊥

-- `--json` asks for JSON; without it, lines are shown
abbrev pub IsFormOf : Found → AnswerForm → Type 0
IsFormOf found Json = IsFlag found (codes "json") true
IsFormOf found Lines = IsFlag found (codes "json") false

-- how many milliseconds a watch waits between two readings, by the word of `--every`; none if that spells no such time
abbrev pub IsIntervalOf : Found → Option ℕ → Type 0
IsIntervalOf found every =
    (word : Option (Bor (List ℕ))) × (option_map (λ w. w.now) word ≡ first_value found (codes "every"))
    × (every ≡ interval word)

-- what is shown: the first of `--check`, `--premises`, `--links` and `--watch` that is given; without them, the nodes once
abbrev pub IsAskedFor : Found → ShownStatus → Type 0
IsAskedFor found (shown.Check file) = first_value found (codes "check") ≡ Some file.now
IsAskedFor found (shown.Part Premises) =
    (first_value found (codes "check") ≡ None) × IsFlag found (codes "premises") true
IsAskedFor found (shown.Part Links) =
    (first_value found (codes "check") ≡ None) × IsFlag found (codes "premises") false × IsFlag found (codes "links") true
IsAskedFor found (shown.Watch every form) =
    (first_value found (codes "check") ≡ None) × IsFlag found (codes "premises") false × IsFlag found (codes "links") false
    × IsFlag found (codes "watch") true × IsIntervalOf found every × IsFormOf found form
IsAskedFor found (shown.Once form) =
    (first_value found (codes "check") ≡ None) × IsFlag found (codes "premises") false × IsFlag found (codes "links") false
    × IsFlag found (codes "watch") false × IsFormOf found form
