-- The log and the record of a node, by the words of `node` and `up`.
use Rattle.std.specs.Prelude.{◌≡◌, true, false, Option, Some, None, codes}
use Rattle.clap.specs.Matches.{first_value}
use Rattle.clap.specs.declared.parser.matches.Found.{Found}
use Rattle.command_grammar.specs.Given.{IsFlag, IsGiven, IsGivenOr}
use Rattle.node_log.specs.Events.{priority_of}
use Rattle.node_log.specs.declared.event.Level.{Level}
use Rattle.process_parts.specs.declared.record_size.RecordSize.{RecordSize}

-- `--log` is the priority of the lowest level, from 4 to 6 as in syslog; without it there is no log
abbrev pub IsLogOf : Found → Option Level → Type 0
IsLogOf found (Some level) = IsGiven found (codes "log") 4 6 (Some (priority_of level))
IsLogOf found None = first_value found (codes "log") ≡ None

-- with `--record` there is a record, whose files have `--record-size` bytes, from 65536 to 2^30, by default 2^23
abbrev pub IsSizeOf : Found → Option RecordSize → Type 0
IsSizeOf found (Some size) =
    IsFlag found (codes "record") true × IsGivenOr found (codes "record-size") 65536 1073741824 8388608 size.bytes
IsSizeOf found None = IsFlag found (codes "record") false
