-- What contracts see of a node's record.
use Rattle.std.specs.Prelude.{ℕ, List, Option, map}
use Rattle.record_pages.specs.flight_records.declared.entry.Entry.{Entry}
use Rattle.record_pages.specs.flight_records.Frames.{FramesView}
use Rattle.gather_command.specs.declared.fault.RecordFile.{RecordFile}
use Rattle.gather_command.specs.declared.fault.Flaw.{Flaw}

-- a file whose first entry is read: which one it is, the bytes that it still has to give, if it says
-- them, the instant of the entry that was read last, and its first entry
pub record FileView : Type 0 where
  pub file : RecordFile
  pub bytes : Option (List ℕ)
  pub last : ℕ
  pub first : Entry

-- a node's record: the file that is read now, the one that is read after it, the frames noted last, the
-- next entry, and what was wrong with the file before this one and with this one
pub record NodeRecordView : Type 0 where
  pub present : FileView
  pub later : Option FileView
  pub frames : FramesView
  pub head : Option Entry
  pub earlier : Option Flaw
  pub flaw : Option Flaw

-- the next entry of each record
abbrev pub heads_in : List NodeRecordView → List (Option Entry)
heads_in records = map (λ r. r.head) records
