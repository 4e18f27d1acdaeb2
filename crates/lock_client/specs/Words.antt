-- The lines from a client to the guard of its command.
use Rattle.std.specs.Prelude.{ℕ, ◌==◌, if◌then◌else◌, nat_lt, List, Option, Some, None, map, length, drop, codes}
use Rattle.std.specs.List.{starts_with}
use Rattle.std.specs.Str.{bytes_eq}
use Rattle.byte_lines.specs.Lines.{whole_lines}
use Rattle.line_words.specs.Numbers.{digits_up_to}
use Rattle.lock_client.specs.declared.words.GuardWord.{GuardWord}
use Rattle.lock_client.specs.declared.words.GuardWord.TheVariants.{Start, Runs, Done, Other}

-- the id of a process that decimal digits spell: at most 2 ^ 22, by Linux
abbrev pub process_number : List ℕ → Option ℕ
process_number = digits_up_to 4194304

-- `runs ` and the id of the command's process
abbrev pub runs_of : Option ℕ → GuardWord
runs_of None = Other
runs_of (Some process) = Runs process

abbrev pub runs_word : List ℕ → GuardWord
runs_word line = if starts_with (λ a b. a == b) line (codes "runs ") then runs_of (process_number (drop 5 line)) else Other

-- what a line says; a line of more than 16 bytes says none of the known words
abbrev pub guard_word : List ℕ → GuardWord
guard_word line =
    if nat_lt 16 (length line) then Other
    else if bytes_eq line (codes "start") then Start
    else if bytes_eq line (codes "done") then Done
    else runs_word line

-- what the bytes of a client say, line by line
abbrev pub guard_words : List ℕ → List GuardWord
guard_words bytes = map guard_word (whole_lines bytes)
