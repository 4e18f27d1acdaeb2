-- What each call makes of a recorder.
use Rattle.std.specs.Prelude.{ℕ, ◌+◌, ◌==◌, Bool, true, false, not, ◌&&◌, ◌||◌, nat_lt, nat_le}
use Rattle.std.specs.Prelude.{if◌then◌else◌, max, List, [], ◌∷◌, ◌++◌, length}
use Rattle.flight_records.specs.declared.entry.Entry.{Entry}
use Rattle.flight_records.specs.declared.entry.Noted.{Noted}
use Rattle.flight_records.specs.declared.entry.Noted.TheVariants as noted
use Rattle.flight_records.specs.declared.entry.StatePart.{StatePart}
use Rattle.flight_records.specs.declared.entry.StatePart.TheVariants.{Start, Own, Port, Waits, Loan, Whole}
use Rattle.flight_records.specs.Spelling.{spelling}
use Rattle.flight_records.specs.Again.{no_frames, frames_after}
use Rattle.flight_records.specs.Laws.{short_entry}
use Rattle.flight_recorder.specs.View.{RecorderView}
use Rattle.flight_recorder.specs.declared.recorder.Side.{Side}
use Rattle.flight_recorder.specs.declared.recorder.Side.TheVariants.{First, Second}

-- the other of the two files
abbrev pub other : Side → Side
other First = Second
other Second = First

-- a recorder at the start of a file
abbrev pub at_start : ℕ → Side → RecorderView
at_start size side =
    record {
      page = [];
      size = size;
      written = 0;
      last = 0;
      frames = no_frames;
      side = side;
      is_begun = false;
      is_stopped = false;
    }

-- nothing has been noted since the recorder began, or since the present file did
abbrev pub is_at_start : RecorderView → Bool
is_at_start r = not r.is_begun

-- the start of a state
abbrev pub is_start_part : StatePart → Bool
is_start_part (Start network node) = true
is_start_part (Own distance parent) = false
is_start_part (Port neighbour seq last staged copy value) = false
is_start_part (Waits ticket) = false
is_start_part (Loan lent left served) = false
is_start_part Whole = false

abbrev pub is_start : Noted → Bool
is_start (noted.State part) = is_start_part part
is_start (noted.Deed deed) = false

-- something is passed over once the record has stopped, and in front of a state's start
abbrev pub is_passed_over : Noted → RecorderView → Bool
is_passed_over n r = r.is_stopped || (is_at_start r && not (is_start n))

-- there is no room for one more entry, of at most 121 bytes
abbrev pub has_no_room : RecorderView → Bool
has_no_room r = nat_lt 32768 (length r.page + 121)

-- the entry that is noted: it is no earlier than the one before it
abbrev pub entry_noted : ℕ → Noted → RecorderView → Entry
entry_noted instant n r = record { instant = max instant r.last; noted = n }

-- something is noted, in its short form if it is the last frame of its link once more
abbrev pub after_note : ℕ → Noted → RecorderView → RecorderView
after_note instant n r =
    if is_passed_over n r then r
    else if has_no_room r then record r { is_stopped = true }
    else record r {
      page = r.page ++ spelling r.last (short_entry r.frames (entry_noted instant n r));
      last = max instant r.last;
      frames = frames_after r.frames n;
      is_begun = true;
    }

-- the page must be written: from 4096 bytes on after a quiet turn, and from 8192 on after any turn
abbrev pub is_due : Bool → RecorderView → Bool
is_due is_quiet r = not r.is_stopped && nat_le (if is_quiet then 4096 else 8192) (length r.page)

-- with the page, the file has no room for one more
abbrev pub fills : RecorderView → Bool
fills r = nat_lt r.size (r.written + length r.page + 32768)

-- the page was written
abbrev pub after_write : RecorderView → RecorderView
after_write r =
    if fills r then record r {
      page = [];
      written = 0;
      last = 0;
      frames = no_frames;
      side = other r.side;
      is_begun = false;
    }
    else record r { page = []; written = r.written + length r.page }

-- it was not: the record stops, and nothing else
abbrev pub after_failure : RecorderView → RecorderView
after_failure r = record r { is_stopped = true }
