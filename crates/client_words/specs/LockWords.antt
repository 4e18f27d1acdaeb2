-- What the words of `lock` ask for.
use Rattle.std.specs.Prelude.{◌≡◌, ◌⊎◌, ℕ, Bool, true, false, List, [], ◌∷◌, Option, Some, None, codes, string_bytes, unwrap_or}
use Rattle.std.specs.Option.{option_map}
use Rattle.clap.specs.Matches.{first_value, matched_of, raw_values}
use Rattle.clap.specs.declared.parser.matches.Found.{Found}
use Rattle.command_grammar.specs.Given.{IsFlag, IsGiven, IsRefused}
use Rattle.lock_command.specs.declared.lock.Request.{Request}
use Rattle.lock_command.specs.declared.seconds.Seconds.{Seconds}
use Rattle.client_words.specs.Needed.{whole_texts}
use Rattle.client_words.specs.Words.{limit_of, text_if}
use Rattle.client_words.specs.declared.whole.StandIns.{StandIns}
use Rattle.command_words.specs.Refused.{IsIdRefused, IsMissing}
use Rattle.client_words.specs.declared.lock.OmittedWords.{OmittedWords}
use Rattle.command_words.specs.declared.refusal.Refusal.{Refusal}
use Rattle.command_words.specs.declared.refusal.Refusal.TheVariants.{Word, Limit, NoWords}

-- the words of the line, with the texts of the two variables for what they leave out
abbrev pub AreWhole : {X : Type 0} → (X → List ℕ) → List X → OmittedWords → List (List ℕ) → Type 0
AreWhole text words surroundings whole =
    (instead : StandIns)
    × (text_if instead.folder ≡ option_map string_bytes surroundings.folder)
    × (text_if instead.node ≡ option_map string_bytes surroundings.node)
    × (whole ≡ whole_texts text words instead)

-- no node is named if the word of ID is `any`; else it is the decimal spelling of the node, at most 65535
abbrev pub IsNodeAsked : Found → Option ℕ → Type 0
IsNodeAsked found None = first_value found (codes "ID") ≡ Some (codes "any")
IsNodeAsked found (Some node) = IsGiven found (codes "ID") 0 65535 (Some node)

-- `--timeout` gives the time to wait, in milliseconds; without it, `--no-wait` gives half a second, and else there is
-- no limit
abbrev pub IsWaitOf : Found → Option Seconds → Type 0
IsWaitOf found (Some limit) =
    ((word : List ℕ) × (first_value found (codes "timeout") ≡ Some word) × (limit_of word ≡ Some limit.millis))
    ⊎ ((first_value found (codes "timeout") ≡ None) × IsFlag found (codes "no-wait") true × (limit.millis ≡ 500))
IsWaitOf found None = (first_value found (codes "timeout") ≡ None) × IsFlag found (codes "no-wait") false

-- the words that make the program the guard of a command; the second kind lets the command run on if the lock is lost
abbrev pub guard_words : Bool → List (List ℕ)
guard_words false = codes "lock" ∷ codes "--guard" ∷ codes "--" ∷ codes "." ∷ codes "0" ∷ []
guard_words true = codes "lock" ∷ codes "--guard-keeping" ∷ codes "--" ∷ codes "." ∷ codes "0" ∷ []

-- the command and its words; none if COMMAND is left out
abbrev pub command_words : Found → List (List ℕ)
command_words found = unwrap_or (option_map raw_values (matched_of found (codes "COMMAND"))) []

-- the folder, the node and the time to wait; the status of a lost lock; and what the flags ask for
abbrev pub IsRequestOf : Found → Request → Type 0
IsRequestOf found request =
    (first_value found (codes "DIR") ≡ Some request.folder.now)
    × IsNodeAsked found request.node
    × IsWaitOf found request.limit
    × IsGiven found (codes "lost-status") 1 255 (Some request.lost)
    × IsFlag found (codes "verbose") request.is_verbose
    × IsFlag found (codes "keep") request.keeps_running
    × IsFlag found (codes "wait-children") request.waits_for_children

-- the word of `--timeout` spells no time from 0 to 65535 seconds
abbrev pub IsWaitRefused : Found → Refusal → Type 0
IsWaitRefused found refusal =
    (refusal ≡ Limit) × ((word : List ℕ) × (first_value found (codes "timeout") ≡ Some word) × (limit_of word ≡ None))

-- the status of a lost lock is no number from 1 to 255
abbrev pub IsLostStatusRefused : Found → Refusal → Type 0
IsLostStatusRefused found (Word fault) = IsRefused found (codes "lost-status") 1 255 fault
IsLostStatusRefused found _ = ⊥

-- one of these is invalid
abbrev pub IsRequestRefused : Found → Refusal → Type 0
IsRequestRefused found refusal =
    IsMissing found (codes "DIR") refusal
    ⊎ (IsIdRefused found refusal ⊎ (IsWaitRefused found refusal ⊎ IsLostStatusRefused found refusal))

-- the request is invalid, or the last word is `--` and no command follows
abbrev pub IsLockRefused : Found → Bool → Refusal → Type 0
IsLockRefused found is_dashed refusal =
    IsRequestRefused found refusal ⊎ ((refusal ≡ NoWords) × (is_dashed ≡ true) × (command_words found ≡ []))
