-- The command lines of the nodes that `up` keeps running, and how they end.
use Rattle.std.specs.Prelude.{ℕ, ◌/◌, ◌%◌, ◌==◌, if◌then◌else◌, Option, None, Some, List, [], ◌∷◌, ◌++◌, codes, decimal}
use Rattle.std.specs.Process.{status_bits}
use Rattle.std.specs.declared.process.status.ExitStatus.{ExitStatus}
use Rattle.pace.specs.declared.pace.Manner.{Manner}
use Rattle.process_parts.specs.declared.rights.Rights.{Rights}
use Rattle.process_parts.specs.declared.rights.Rights.TheVariants.{Usual, GroupLocks}
use Rattle.process_parts.specs.declared.record_size.RecordSize.{RecordSize}
use Rattle.process_parts.specs.node_texts.Thousandths.{millis_text}
use Rattle.node_log.specs.Events.{priority_of}
use Rattle.node_log.specs.declared.event.Level.{Level}
use Rattle.process_parts.specs.node_texts.declared.lines.End.{End}
use Rattle.process_parts.specs.node_texts.declared.lines.End.TheVariants.{Status, Signal, Unknown}

-- the options that make this program a node in this manner: a child that names itself, ends with
-- its input, and whose turns are late after this many microseconds
abbrev pub child_options : Manner → ℕ → List (List ℕ)
child_options manner turn =
    codes "node" ∷ codes "--child"
    ∷ codes "--hold" ∷ decimal manner.hold
    ∷ codes "--repeat" ∷ decimal manner.repeat
    ∷ codes "--turn" ∷ millis_text turn ∷ []

-- the option that lets the group take the lock
abbrev pub rights_options : Rights → List (List ℕ)
rights_options Usual = []
rights_options GroupLocks = codes "--group-locks" ∷ []

-- the option for the lowest level of its log
abbrev pub log_options : Option Level → List (List ℕ)
log_options None = []
log_options (Some level) = codes "--log" ∷ decimal (priority_of level) ∷ []

-- the options for its record, in two files of at most this many bytes each
abbrev pub record_options : Option RecordSize → List (List ℕ)
record_options None = []
record_options (Some size) = codes "--record" ∷ codes "--record-size" ∷ decimal size.bytes ∷ []

-- the words that start node `id` of a network; `--` allows a FILE or DIR that begins with a hyphen
abbrev pub child_words : Manner → ℕ → Rights → Option Level → Option RecordSize → List ℕ → ℕ → List ℕ → List (List ℕ)
child_words manner turn rights log size file id dir =
    child_options manner turn
    ++ (rights_options rights
    ++ (log_options log ++ (record_options size ++ codes "--" ∷ file ∷ decimal id ∷ dir ∷ [])))

-- how a process ended, by POSIX's wait status: if its low seven bits are 0, the process ended by
-- itself, and the next byte is its status; if they are 127, it has not ended; else they are the
-- signal that ended it
abbrev pub end_of : ExitStatus → End
end_of s =
    if status_bits s % 128 == 0 then Status (status_bits s / 256 % 256)
    else if status_bits s % 128 == 127 then Unknown
    else Signal (status_bits s % 128)
