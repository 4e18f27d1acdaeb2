-- A recorder that goes on after what stands in a file.
use Rattle.std.specs.Prelude.{◌≡◌, ℕ, ◌+◌, ◌==◌, ◌≤◌, ◌<◌, IsTrue, Bool, true, false, ◌&&◌, List, drop, length}
use Rattle.std.specs.Prelude.{Option, Some, None, Result, Ok, Err, ◌⊎◌}
use Rattle.flight_records.specs.leb128.declared.unread.Unread.{Unread}
use Rattle.flight_records.specs.declared.entry.Entry.{Entry}
use Rattle.flight_records.specs.declared.entry.Noted.{Noted}
use Rattle.flight_records.specs.declared.entry.Noted.TheVariants as noted
use Rattle.flight_records.specs.declared.entry.StatePart.{StatePart}
use Rattle.flight_records.specs.declared.entry.StatePart.TheVariants.{Start, Own, Port, Waits, Loan, Whole}
use Rattle.flight_records.specs.Reading.{entry_at}
use Rattle.flight_records.specs.Laws.{AreRead, instant_after}
use Rattle.flight_recorder.specs.View.{RecorderView}
use Rattle.flight_recorder.specs.Recorder.{at_start}
use Rattle.flight_recorder.specs.declared.front.Front.{Front}
use Rattle.flight_recorder.specs.declared.recorder.Side.{Side}

-- no entry is read
abbrev pub IsNone : Result (Entry × List ℕ) Unread → Type 0
IsNone (Ok x) = ⊥
IsNone (Err e) = Unit {0}

-- These entries are all that is read at the front of a file: they take its first `count` bytes, the last one
-- is of the instant `last`, and no entry begins after them.
pub record IsFront (file : List ℕ) (count last : ℕ) (es : List Entry) : Type 0 where
  pub within : count ≤ length file
  pub read : AreRead 0 file es (drop count file)
  pub last_is : last ≡ instant_after 0 es
  pub no_more : IsNone (entry_at last (drop count file))

abbrev pub IsFrontOf : List ℕ → Front → Type 0
IsFrontOf file f = (es : List Entry) × IsFront file f.count f.last es

-- the start of a state of this node, of the network with this number
abbrev pub is_start_part_of : StatePart → ℕ → ℕ → Bool
is_start_part_of (Start mark id) network node = (mark == network) && (id == node)
is_start_part_of (Own distance parent) network node = false
is_start_part_of (Port neighbour seq last staged copy value) network node = false
is_start_part_of (Waits ticket) network node = false
is_start_part_of (Loan lent left served) network node = false
is_start_part_of Whole network node = false

abbrev pub is_start_of : Noted → ℕ → ℕ → Bool
is_start_of (noted.State part) network node = is_start_part_of part network node
is_start_of (noted.Deed deed) network node = false

-- what is read first is such a start
abbrev pub Begins : ℕ → ℕ → Result (Entry × List ℕ) Unread → Type 0
Begins network node (Ok x) = IsTrue (is_start_of x.0.noted network node)
Begins network node (Err e) = ⊥

-- A recorder that goes on after the entries at the front of a file that begins like this; nothing is noted
-- yet.
pub record Resumes (size : ℕ) (side : Side) (network node : ℕ) (file : List ℕ) (r : RecorderView) : Type 0 where
  pub entries : List Entry
  pub front : IsFront file r.written r.last entries
  pub begins : Begins network node (entry_at 0 file)
  pub rest : r ≡ record (at_start size side) { written = r.written; last = r.last }

-- a file after which no recorder goes on: it begins differently, or has no room for a page of 32768
-- bytes
abbrev pub IsLeft : ℕ → ℕ → ℕ → List ℕ → Type 0
IsLeft size network node file =
    (Begins network node (entry_at 0 file) → ⊥)
    ⊎ ((count : ℕ) × (last : ℕ) × (es : List Entry) × IsFront file count last es × (size < count + 32768))

abbrev pub IsResumed : ℕ → Side → ℕ → ℕ → List ℕ → Option RecorderView → Type 0
IsResumed size side network node file (Some r) = Resumes size side network node file r
IsResumed size side network node file None = IsLeft size network node file
