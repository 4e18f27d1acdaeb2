-- The law of recorders.
use Rattle.std.specs.Prelude.{◌≡◌, ℕ, ◌^◌, ◌<◌, IsTrue, ◌||◌, Bool, true, false, List, [], ◌∷◌, ◌++◌, length, take, if◌then◌else◌}
use Rattle.std.specs.List.{AllByRecursion}
use Rattle.flight_records.specs.declared.entry.Entry.{Entry}
use Rattle.flight_records.specs.declared.entry.Noted.{Noted}
use Rattle.flight_records.specs.Again.{no_frames}
use Rattle.flight_records.specs.Laws.{AreInOrder, AreRead, IsLong, IsNoted, instant_after}
use Rattle.flight_records.specs.Laws.{frames_after_all, short_entries, StandFor}
use Rattle.flight_records.specs.Spelling.{record_of}
use Rattle.flight_records.specs.Frames.{FramesView}
use Rattle.flight_records.specs.leb128.Laws.{AreBytes}
use Rattle.flight_recorder.specs.View.{RecorderView}
use Rattle.flight_recorder.specs.Resume.{IsFront, Resumes}
use Rattle.flight_recorder.specs.declared.recorder.Side.{Side}
use Rattle.flight_recorder.specs.Recorder.{is_start, is_passed_over, has_no_room, entry_noted, after_note, fills, after_write}

-- a record begins with the start of a state, or has no entry yet
abbrev pub BeginsWithStart : List Entry → Type 0
BeginsWithStart [] = Unit {0}
BeginsWithStart (e ∷ es) = IsTrue (is_start e.noted)

-- there is an entry
abbrev pub is_any : List Entry → Bool
is_any [] = false
is_any (e ∷ es) = true

-- A file and the page that belongs to its end are, together, this front of the file, whose last entry is of
-- the instant `base`, and after it the record of these entries, in their short forms.
pub record HoldsAfter (front : List ℕ) (base : ℕ) (r : RecorderView) (file : List ℕ) (es : List Entry) : Type 0 where
  pub written : length file ≡ r.written
  pub bytes : file ++ r.page ≡ front ++ record_of base (short_entries no_frames es)
  pub order : AreInOrder base es
  pub last : r.last ≡ instant_after base es
  pub frames : r.frames ≡ frames_after_all no_frames es
  pub start : BeginsWithStart es
  pub begun : r.is_begun ≡ is_any es

-- they are the record of these entries alone
abbrev pub Holds : RecorderView → List ℕ → List Entry → Type 0
Holds r file es = HoldsAfter [] 0 r file es

-- the entries that a note adds: one, or none if it is passed over or there is no room
abbrev pub added : ℕ → Noted → RecorderView → List Entry
added instant n r =
    if is_passed_over n r || has_no_room r then [] else entry_noted instant n r ∷ []

-- A note adds its entry, unless it is passed over or there is no room; a page that is written goes to the
-- end of the file; if that is full, a record of no entries is begun. A recorder that goes on after the front
-- of a file, with what comes after it cut off, holds that front. If these entries name their frames, reading
-- the file and then the page gives the entries of the front and then short forms that stand for these very
-- entries.
pub record FilesAreRecords : Type 0 where
  pub noted : (front : List ℕ) (base : ℕ) (r : RecorderView) (file : List ℕ) (es : List Entry) (instant : ℕ) (n : Noted)
      → HoldsAfter front base r file es → base < 2 ^ 64 → instant < 2 ^ 64 → IsNoted n
      → HoldsAfter front base (after_note instant n r) file (es ++ added instant n r)
  pub goes_on : (front : List ℕ) (base : ℕ) (r : RecorderView) (file : List ℕ) (es : List Entry)
      → HoldsAfter front base r file es → fills r ≡ false → HoldsAfter front base (after_write r) (file ++ r.page) es
  pub turns : (r : RecorderView) → fills r ≡ true → Holds (after_write r) [] []
  pub resumed : (size : ℕ) (side : Side) (network node : ℕ) (file : List ℕ) (r : RecorderView)
      → Resumes size side network node file r
      → HoldsAfter (take r.written file) r.last r (take r.written file) []
  pub fronts : (file : List ℕ) (count last : ℕ) (es : List Entry) → AreBytes file → IsFront file count last es
      → (last < 2 ^ 64) × AreRead 0 (take count file) es []
  pub read : (front : List ℕ) (base : ℕ) (r : RecorderView) (file : List ℕ) (first es : List Entry) (v : FramesView)
      → AreRead 0 front first [] → instant_after 0 first ≡ base
      → HoldsAfter front base r file es → AllByRecursion (λ e. IsLong e.noted) es
      → AreRead 0 (file ++ r.page) (first ++ short_entries no_frames es) []
      × StandFor v (short_entries no_frames es) es
