-- What `up` says of a node that has ended.
use Rattle.std.specs.Prelude.{ℕ, ◌==◌, if◌then◌else◌, List, ◌++◌, codes, decimal}
use Rattle.process_parts.specs.node_texts.declared.lines.End.{End}
use Rattle.process_parts.specs.node_texts.declared.lines.End.TheVariants.{Status, Signal, Unknown, Unstarted}
use Rattle.up_process.specs.declared.left.LastLine.{LastLine}
use Rattle.up_process.specs.declared.left.LastLine.TheVariants.{Left, Gone}

-- how a node that is left alone ended
abbrev pub last_end : End → List ℕ
last_end (Status status) = codes "ended with status " ++ decimal status
last_end (Signal signal) = codes "was ended by signal " ++ decimal signal
last_end Unknown = codes "ended"
last_end Unstarted = codes "cannot be started"

-- how a node that was asked to end ended; after a good end the line says only that it has ended
abbrev pub good_end : End → List ℕ
good_end (Status status) = if status == 0 then codes "has ended" else last_end (Status status)
good_end end = last_end end

-- a node that failed at its start three times in a row is left alone
abbrev pub last_line : LastLine → List ℕ
last_line (Left id end) =
    codes "node " ++ (decimal id ++ (codes " " ++ (last_end end
    ++ codes " for the third time at its start, and is left alone; mend what it says, and start up again")))
last_line (Gone id end) = codes "node " ++ (decimal id ++ (codes " " ++ good_end end))
