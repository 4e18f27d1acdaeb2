-- The files of a node's record.
use Rattle.std.specs.Prelude.{◌≡◌, ◌⊎◌, ℕ, List, nat_lt, if◌then◌else◌, max, Option, None, Some}
use Rattle.node_recorder.specs.flight_recorder.View.{RecorderView}
use Rattle.node_recorder.specs.flight_recorder.Recorder.{at_start, other}
use Rattle.node_recorder.specs.flight_recorder.Resume.{IsLeft, Resumes}
use Rattle.node_recorder.specs.flight_recorder.declared.recorder.Side.{Side}
use Rattle.node_recorder.specs.flight_recorder.declared.recorder.Side.TheVariants.{First, Second}
use Rattle.process_parts.specs.declared.record_size.RecordSize.{RecordSize}

-- the most bytes of a file; it has room for two pages
abbrev pub file_bytes : RecordSize → ℕ
file_bytes size = max size.bytes 65536

-- the file with which a record begins, by when each file that is there was written: the one that
-- was written earlier, or one that is not there
abbrev pub side_to_begin : Option ℕ → Option ℕ → Side
side_to_begin None second = First
side_to_begin (Some first) None = Second
side_to_begin (Some first) (Some second) = if nat_lt second first then Second else First

-- what belongs to one of two files
abbrev pub of_side : {X : Type 0} → Side → X → X → X
of_side First first second = first
of_side Second first second = second

-- The pages after the file that was written last: a recorder goes on in it, after its whole entries; or it
-- cannot, and then it begins the other file.
abbrev pub ArePagesAfter : ℕ → Side → ℕ → ℕ → List ℕ → RecorderView → Type 0
ArePagesAfter size earlier network node last pages =
    Resumes size (other earlier) network node last pages
    ⊎ (IsLeft size network node last × (pages ≡ at_start size earlier))

-- the pages with which a record begins, after the entries of a file that is there, or at the start
-- of a file
abbrev pub AreFirstPages : ℕ → RecorderView → Type 0
AreFirstPages size pages =
    (pages ≡ at_start size pages.side)
    ⊎ ((network : ℕ) × (node : ℕ) × (last : List ℕ) × Resumes size pages.side network node last pages)
