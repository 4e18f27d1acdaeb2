-- What is read of a file of a record: its entries, each with its frame in full, and how it ends.
use Rattle.std.specs.Prelude.{◌≡◌, ◌≢◌, ℕ, ◌≤◌, List, [], ◌∷◌, Option, Some, None, Ok, Err}
use Rattle.record_pages.specs.byte_streams.Streams.{Rose}
use Rattle.record_pages.specs.declared.stop.Stop.{Stop}
use Rattle.record_pages.specs.declared.stop.Stop.TheVariants as stop
use Rattle.record_pages.specs.flight_records.declared.entry.Entry.{Entry}
use Rattle.record_pages.specs.flight_records.declared.entry.Noted.{Noted}
use Rattle.record_pages.specs.flight_records.declared.entry.Noted.TheVariants as noted
use Rattle.record_pages.specs.flight_records.declared.entry.StatePart.TheVariants as part
use Rattle.record_pages.specs.flight_records.leb128.declared.unread.Unread.TheVariants.{Short, Invalid}
use Rattle.record_pages.specs.flight_records.Frames.{FramesView}
use Rattle.record_pages.specs.flight_records.Reading.{entry_at}
use Rattle.record_pages.specs.flight_records.Again.{no_frames, frames_after, lengthened}
use Rattle.flight_recorder.specs.declared.recorder.Side.{Side}
use Rattle.gather_command.specs.declared.fault.FlawKind.{FlawKind}
use Rattle.gather_command.specs.declared.fault.FlawKind.TheVariants.{Torn, Spoiled, Unreadable}
use Rattle.gather_command.specs.declared.records.Opened.{Opened}
use Rattle.gather_command.specs.declared.records.Opened.TheVariants as opened

-- a source of this kind may fail: its count of failures rises from one of its states to another
abbrev pub MayFail : {S : Type 0} → (S → ℕ) → Type 0
MayFail {S = S} failures =
    (before : S) × (after : S) × (failures before ≤ failures after) × Rose (failures before) (failures after)

-- what is wrong with a file that gave no further entry for this reason; none if it is at its end
abbrev pub flaw_for : Stop → Option FlawKind
flaw_for stop.End = None
flaw_for stop.Torn = Some Torn
flaw_for stop.Invalid = Some Spoiled
flaw_for stop.Failed = Some Unreadable

-- an entry with its frame in full
abbrev pub in_full : Entry → Noted → Entry
in_full e long = record { instant = e.instant; noted = long }

-- What a file still gives, after an entry of the instant `last` and after these frames: entries, and what
-- is wrong if it was not read to its end. `Fails` says that its source may fail. Nothing is said of a file
-- that does not say its bytes.
pub data IsReadOn (Fails : Type 0) : ℕ → FramesView → Option (List ℕ) → List Entry → Option FlawKind → Type 0 where
  Unsaid : {last : ℕ} {frames : FramesView} {es : List Entry} {flaw : Option FlawKind}
      → IsReadOn Fails last frames None es flaw
  Ends : {last : ℕ} {frames : FramesView} → IsReadOn Fails last frames (Some []) [] None
  Tears : {last : ℕ} {frames : FramesView} {bytes : List ℕ} → bytes ≢ []
      → entry_at last bytes ≡ Err Short → IsReadOn Fails last frames (Some bytes) [] (Some Torn)
  Spoils : {last : ℕ} {frames : FramesView} {bytes : List ℕ} → entry_at last bytes ≡ Err Invalid
      → IsReadOn Fails last frames (Some bytes) [] (Some Spoiled)
  Nameless : {last : ℕ} {frames : FramesView} {bytes left : List ℕ} {e : Entry}
      → entry_at last bytes ≡ Ok (e, left) → lengthened frames e.noted ≡ None
      → IsReadOn Fails last frames (Some bytes) [] (Some Spoiled)
  Stops : {last : ℕ} {frames : FramesView} {bytes : List ℕ} → Fails
      → IsReadOn Fails last frames (Some bytes) [] (Some Unreadable)
  Further : {last : ℕ} {frames : FramesView} {bytes left : List ℕ} {e : Entry} {long : Noted}
      {es : List Entry} {flaw : Option FlawKind} → entry_at last bytes ≡ Ok (e, left)
      → lengthened frames e.noted ≡ Some long
      → IsReadOn Fails e.instant (frames_after frames long) (Some left) es flaw
      → IsReadOn Fails last frames (Some bytes) (in_full e long ∷ es) flaw

-- The same for a file that was opened: a missing file is read as an empty one, and nothing is read if
-- memory ran out.
abbrev pub IsRead : {S : Type 0} → (S → Option (List ℕ)) → Type 0 → Opened S → List Entry → Option FlawKind → Type 0
IsRead rest Fails (opened.File source) es flaw = IsReadOn Fails 0 no_frames (rest source) es flaw
IsRead rest Fails opened.Absent es flaw = (es ≡ []) × (flaw ≡ None)
IsRead rest Fails opened.Unreadable es flaw = (es ≡ []) × (flaw ≡ Some Unreadable)
IsRead rest Fails opened.NoMemory es flaw = ⊥

-- a file of a node's record may be opened, and is read like this
abbrev pub Reads : {S : Type 0} → (ℕ → Side → Opened S → Type 0) → (S → Option (List ℕ)) → Type 0
    → ℕ → Side → List Entry → Option FlawKind → Type 0
Reads {S = S} opens rest Fails v side es flaw = (o : Opened S) × opens v side o × IsRead rest Fails o es flaw

-- the first entry of a file, if it says its bytes
abbrev pub IsFirstOf : Option (List ℕ) → Entry → Type 0
IsFirstOf None e = Unit {0}
IsFirstOf (Some bytes) e = (left : List ℕ) × (entry_at 0 bytes ≡ Ok (e, left))

abbrev pub IsFirst : {S : Type 0} → (S → Option (List ℕ)) → Opened S → Entry → Type 0
IsFirst rest (opened.File source) e = IsFirstOf (rest source) e
IsFirst rest opened.Absent e = ⊥
IsFirst rest opened.Unreadable e = ⊥
IsFirst rest opened.NoMemory e = ⊥

-- a file of a node's record may be opened, and begins with this entry
abbrev pub Begins : {S : Type 0} → (ℕ → Side → Opened S → Type 0) → (S → Option (List ℕ))
    → ℕ → Side → Entry → Type 0
Begins {S = S} opens rest v side e = (o : Opened S) × opens v side o × IsFirst rest o e

-- the start of the state of this node, of the network with this number
abbrev pub start_of : ℕ → ℕ → Noted
start_of mark v = noted.State (part.Start mark v)

-- what may be opened afterwards may be opened before
abbrev pub OpensNoMore : {S : Type 0} → (ℕ → Side → Opened S → Type 0) → (ℕ → Side → Opened S → Type 0) → Type 0
OpensNoMore {S = S} before after = (v : ℕ) (side : Side) (o : Opened S) → after v side o → before v side o
