-- What is said of records, in lines: which files are invalid or damaged, and the numbers of a recording.
use Rattle.std.specs.Prelude.{ℕ, ◌==◌, if◌then◌else◌, List, [], ◌++◌, Option, Some, None, codes, decimal}
use Rattle.flight_recorder.specs.Names.{record_name}
use Rattle.record_gathering.specs.declared.found.EventCounts.{EventCounts}
use Rattle.record_gathering.specs.declared.fields.Field.{Field}
use Rattle.record_gathering.specs.declared.fields.Field.TheVariants as field
use Rattle.gather_command.specs.declared.damage.Difference.{Difference}
use Rattle.gather_command.specs.declared.fault.RecordFile.{RecordFile}
use Rattle.gather_command.specs.declared.fault.Flaw.{Flaw}
use Rattle.gather_command.specs.declared.fault.FlawKind.{FlawKind}
use Rattle.gather_command.specs.declared.fault.FlawKind.TheVariants as kind
use Rattle.gather_command.specs.declared.fault.GatherFault.{GatherFault}
use Rattle.gather_command.specs.declared.fault.GatherFault.TheVariants as fault
use Rattle.gather_command.specs.declared.summary.Lasted.{Lasted}
use Rattle.gather_command.specs.declared.summary.RecordingSummary.{RecordingSummary}

-- the path of a file of a record, in its folder
abbrev pub file_name : List ℕ → RecordFile → List ℕ
file_name dir file = record_name dir file.node file.side

-- why the records of a folder give no list of events
abbrev pub fault_line : List ℕ → GatherFault → List ℕ
fault_line dir (fault.Absent v) = codes "node " ++ (decimal v ++ (codes " has no record in " ++ dir))
fault_line dir (fault.Unreadable file) = codes "cannot read " ++ file_name dir file
fault_line dir (fault.NoRecord file) = file_name dir file ++ codes " is no record of this version"
fault_line dir (fault.OtherNetwork file) = file_name dir file ++ codes " is of another network"
fault_line dir (fault.OtherNode file v) =
    file_name dir file ++ (codes " is the record of node " ++ decimal v)
fault_line dir fault.Output = codes "standard output cannot be written"
fault_line dir fault.Memory = codes "out of memory"
fault_line dir fault.TooMany = codes "too many entries in " ++ dir

-- where a file was not read to its end, and why
abbrev pub flaw_text : FlawKind → List ℕ → List ℕ → List ℕ
flaw_text kind.Torn name instant =
    name ++ (codes " ends within an entry, after microsecond " ++ instant)
flaw_text kind.Spoiled name instant = name ++ (codes " is damaged after microsecond " ++ instant)
flaw_text kind.Unreadable name instant =
    codes "cannot read " ++ (name ++ (codes " after microsecond " ++ instant))

abbrev pub flaw_line : List ℕ → Flaw → List ℕ
flaw_line dir flaw = flaw_text flaw.kind (file_name dir flaw.file) (decimal flaw.instant)

-- how much was gathered
abbrev pub stretch_line : RecordingSummary → List ℕ
stretch_line s =
    codes "nodes " ++ (decimal s.nodes ++ (codes ", events " ++ (decimal s.found.events
    ++ (codes ", time " ++ (decimal s.stretch ++ codes " microseconds")))))

-- what is wrong according to the records, in numbers
abbrev pub found_line : EventCounts → List ℕ
found_line f =
    codes "frames lost " ++ (decimal f.lost ++ (codes ", harms " ++ (decimal f.harms
    ++ (codes ", frames that nobody sent " ++ decimal f.forged))))

-- which loan was the longest
abbrev pub lasted_text : Option Lasted → List ℕ
lasted_text None = []
lasted_text (Some l) =
    codes ", longest loan " ++ (decimal l.time ++ (codes " microseconds to ticket " ++ (decimal l.ticket
    ++ (codes " at node " ++ decimal l.node))))

-- how long turns, frames and loans took
abbrev pub loans_line : RecordingSummary → List ℕ
loans_line s =
    codes "longest turn " ++ (decimal s.longest_turn ++ (codes " microseconds, longest delay " ++ (decimal s.longest_delay
    ++ (codes ", loans " ++ (decimal s.loans ++ lasted_text s.longest_loan)))))

-- a field, by its name
abbrev pub field_text : Field → List ℕ
field_text field.Distance = codes "distance"
field_text field.Parent = codes "parent"
field_text (field.Number u) = codes "number of what it sends to node " ++ decimal u
field_text (field.Last u) = codes "last number from node " ++ decimal u
field_text (field.Staged u) = codes "payload for node " ++ decimal u
field_text (field.Copied u) = codes "payload from node " ++ decimal u
field_text (field.Value u) = codes "ring value from node " ++ decimal u
field_text field.Waiting = codes "tickets that wait"
field_text field.Lent = codes "ticket of the loan"
field_text field.Left = codes "ticks left of the loan"
field_text field.Served = codes "whether it served"
field_text (field.Taken u) = codes "a frame that node " ++ (decimal u ++ codes " did not send")

-- which field of which node differed, and when
abbrev pub difference_line : Difference → List ℕ
difference_line d =
    codes "node " ++ (decimal d.node ++ (codes " differs at microsecond " ++ (decimal d.instant
    ++ (codes ": " ++ field_text d.field))))

-- how many fields differed, and how many of them are named
abbrev pub differences_line : ℕ → ℕ → List ℕ
differences_line count named =
    if count == named then codes "differences " ++ decimal count
    else codes "differences " ++ (decimal count ++ (codes ", of which the first " ++ (decimal named ++ codes " are named")))
