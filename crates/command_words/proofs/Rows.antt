-- Small examples of command lines and of how they end, and some that look like them and end otherwise.
use Rattle.std.proofs.Common.{◌≡◌, ◌≢◌, true, false, Err, List, [], ◌∷◌, Some, None, codes, refl, arith}
use Rattle.clap.specs.Facts.{aliases_to}
use Rattle.clap.specs.declared.builder.command.Command.{Command}
use Rattle.clap.specs.declared.parser.matches.Found.{Found}
use Rattle.program_ends.specs.command_faults.declared.fault.Fault.TheVariants.{Closed, Memory}
use Rattle.command_words.specs.Ends.{asks_for_lock, asks_for_version, is_of_service, is_version, kind_fault_text, known_command}
use Rattle.command_words.specs.Ends.{names_service, refusal_text, schedule_fault_text, serves, status_of}
use Rattle.command_words.specs.Refused.{IsIdRefused, IsMissing}
use Rattle.command_words.specs.declared.refusal.KindFault.TheVariants.{NoColumns, OneNumber}
use Rattle.command_words.specs.declared.refusal.Refusal.TheVariants.{Fault, Kind, NoCommand, NoWords, Schedule}
use Rattle.command_words.specs.declared.refusal.ScheduleFault.TheVariants.{SlowAlone}

lock-asked : asks_for_lock (codes "tokentree" ∷ codes "lock" ∷ codes "ring.toml" ∷ []) ≡ true
lock-asked = refl

-- the program's own name counts for nothing
lock_not-name : asks_for_lock (codes "lock" ∷ []) ≡ false
lock_not-name = refl

known : (command : Command) → aliases_to command (codes "lock") ≡ true
    → known_command (command ∷ []) (codes "tokentree" ∷ codes "lock" ∷ codes "ring.toml" ∷ []) ≡ Some (codes "lock")
known command called = rw called refl

-- no command is called so
known_not-other : (command : Command) → aliases_to command (codes "lokc") ≡ false
    → known_command (command ∷ []) (codes "tokentree" ∷ codes "lokc" ∷ []) ≡ None
known_not-other command called = rw called refl

-- nor does the program's own name count here
known_not-name : (commands : List Command) → known_command commands (codes "lock" ∷ []) ≡ None
known_not-name commands = refl

-- the parser knows `--version` itself
version-short : is_version (codes "-v") ≡ true
version-short = refl

version_not-long : is_version (codes "--version") ≡ false
version_not-long = refl

version-word : asks_for_version (codes "tokentree" ∷ codes "version" ∷ []) ≡ true
version-word = refl

version-option : asks_for_version (codes "tokentree" ∷ codes "lock" ∷ codes "--version" ∷ []) ≡ true
version-option = refl

-- `-v` after a command may be an option of its own
version_not-short : asks_for_version (codes "tokentree" ∷ codes "lock" ∷ codes "-v" ∷ []) ≡ false
version_not-short = refl

serves-stop : serves (codes "stop") ≡ true
serves-stop = refl

serves_not-simulate : serves (codes "simulate") ≡ false
serves_not-simulate = refl

service-named : names_service (codes "tokentree" ∷ codes "node" ∷ []) ≡ true
service-named = refl

service-version : is_of_service (codes "tokentree" ∷ codes "-v" ∷ []) ≡ true
service-version = refl

service_not-none : is_of_service (codes "tokentree" ∷ []) ≡ false
service_not-none = refl

-- 2 if the words are invalid, 125 for a fault of `lock`, since 1 may be its command's
status-words : status_of true (Err NoWords) ≡ 2
status-words = refl

status-lock : status_of true (Err (Fault Memory)) ≡ 125
status-lock = refl

status_not-lock : status_of false (Err (Fault Memory)) ≡ 1
status_not-lock = refl

-- nobody reads on, whatever the command
status-closed : status_of true (Err (Fault Closed)) ≡ 141
status-closed = refl

text-fault : refusal_text (Fault Memory) ≡ codes "out of memory"
text-fault = refl

text-kind : refusal_text (Kind NoColumns) ≡ codes "a grid takes two numbers, of rows and of columns"
text-kind = refl

text_not-kind : kind_fault_text OneNumber ≢ kind_fault_text NoColumns
text_not-kind = grind arith

text-schedule : refusal_text (Schedule SlowAlone) ≡ schedule_fault_text SlowAlone
text-schedule = refl

-- a fault is no missing word, and no word that is no id
missing_not-fault : (found : Found) → ¬ IsMissing found (codes "ID") (Fault Memory)
missing_not-fault found h = h

id_not-command : (found : Found) → ¬ IsIdRefused found NoCommand
id_not-command found h = h
