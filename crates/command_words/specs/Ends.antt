-- How a command line ends: its status, and what it says if it fails.
use Rattle.std.specs.Prelude.{ℕ, Bool, false, ◌||◌, List, [], ◌∷◌, Result, Ok, Err, Option, None, Some, if◌then◌else◌, codes}
use Rattle.std.specs.List.{list_any}
use Rattle.std.specs.Str.{bytes_eq}
use Rattle.std.specs.Process.{exit_status}
use Rattle.std.specs.declared.process.ExitCode.{ExitCode}
use Rattle.clap.specs.Facts.{aliases_to}
use Rattle.clap.specs.declared.builder.command.Command.{Command}
use Rattle.command_grammar.specs.FaultText.{word_fault_text}
use Rattle.program_ends.specs.command_faults.FaultText.{fault_text}
use Rattle.program_ends.specs.Ends.{end_status}
use Rattle.recovery_times.specs.Words.{time_fault_text}
use Rattle.command_words.specs.declared.refusal.Refusal.{Refusal}
use Rattle.command_words.specs.declared.refusal.Refusal.TheVariants.{Word, Time, Limit, Window, Kind, Schedule, NoWords, NoCommand, Fault}
use Rattle.command_words.specs.declared.refusal.KindFault.{KindFault}
use Rattle.command_words.specs.declared.refusal.KindFault.TheVariants.{Unknown, NoColumns, OneNumber, RandomAlone}
use Rattle.command_words.specs.declared.refusal.ScheduleFault.{ScheduleFault}
use Rattle.command_words.specs.declared.refusal.ScheduleFault.TheVariants as schedule

-- the word after the program's name is `lock`
abbrev pub asks_for_lock : List (List ℕ) → Bool
asks_for_lock (program ∷ command ∷ words) = bytes_eq command (codes "lock")
asks_for_lock _ = false

-- the word after the program's name, if one of these commands has that name
abbrev pub known_command : List Command → List (List ℕ) → Option (List ℕ)
known_command commands (program ∷ name ∷ words) = if list_any (λ c. aliases_to c name) commands then Some name else None
known_command commands _ = None

-- a word that asks for the version if it stands alone
abbrev pub is_version : List ℕ → Bool
is_version word = bytes_eq word (codes "version") || bytes_eq word (codes "-v")

-- the only word after the program's name is `version` or `-v`, or the second of two is `--version`
abbrev pub asks_for_version : List (List ℕ) → Bool
asks_for_version (program ∷ word ∷ []) = is_version word
asks_for_version (program ∷ command ∷ word ∷ []) = bytes_eq word (codes "--version")
asks_for_version _ = false

-- one of the commands that serve a lock
abbrev pub serves : List ℕ → Bool
serves name =
    bytes_eq name (codes "bound") || bytes_eq name (codes "network") || bytes_eq name (codes "lock")
    || bytes_eq name (codes "status") || bytes_eq name (codes "node") || bytes_eq name (codes "up")
    || bytes_eq name (codes "stop")

-- the word after the program's name is such a command
abbrev pub names_service : List (List ℕ) → Bool
names_service (program ∷ command ∷ words) = serves command
names_service _ = false

-- the words name such a command, or ask for the version
abbrev pub is_of_service : List (List ℕ) → Bool
is_of_service words = asks_for_version words || names_service words

-- the message if the words of `network` describe no network
abbrev pub kind_fault_text : KindFault → List ℕ
kind_fault_text Unknown = codes "KIND is none of line, ring, star, complete, tree, grid and random"
kind_fault_text NoColumns = codes "a grid takes two numbers, of rows and of columns"
kind_fault_text OneNumber = codes "this kind takes one number, of nodes"
kind_fault_text RandomAlone = codes "--edges and --seed are for random alone"

-- the message if `measure` takes no such order of events
abbrev pub schedule_fault_text : ScheduleFault → List ℕ
schedule_fault_text schedule.Unknown = codes "--schedule is none of rounds, random, slow-link and slow-node"
schedule_fault_text schedule.SlowAlone = codes "--share is for slow-link and slow-node alone"

-- the message after the program's name
abbrev pub refusal_text : Refusal → List ℕ
refusal_text (Word fault) = word_fault_text fault
refusal_text (Time fault) = time_fault_text fault
refusal_text Limit = codes "--timeout is no time from 0 to 65535 seconds, with at most 3 decimals"
refusal_text NoWords = codes "no command follows --: leave -- out to hold the lock until standard input ends"
refusal_text Window = codes "--from is greater than --to"
refusal_text (Kind fault) = kind_fault_text fault
refusal_text (Schedule fault) = schedule_fault_text fault
refusal_text NoCommand = codes "no command"
refusal_text (Fault fault) = fault_text fault

-- the command's own status; 2 if the words are invalid; 141 if the reader of the output is gone; else
-- that of a fault, which is 125 for `lock`, since 1 may be its command's
abbrev pub status_of : Bool → Result ExitCode Refusal → ℕ
status_of is_lock (Ok status) = exit_status status
status_of is_lock (Err (Fault fault)) = end_status fault (if is_lock then 125 else 1)
status_of is_lock (Err refusal) = 2
