-- The record of a node: two files, of which the earlier one comes first.
use Rattle.std.specs.Prelude.{◌≡◌, ◌≢◌, ℕ, ◌<◌, ◌⊎◌, suc, nat_lt, Bool, false, if◌then◌else◌, List, [], ◌∷◌, ◌++◌, Option, Some, None, Result, Ok, Err}
use Rattle.record_pages.specs.flight_records.declared.entry.Entry.{Entry}
use Rattle.record_pages.specs.flight_records.Again.{no_frames}
use Rattle.record_pages.specs.flight_records.Laws.{instant_after}
use Rattle.flight_recorder.specs.declared.recorder.Side.{Side}
use Rattle.flight_recorder.specs.declared.recorder.Side.TheVariants.{First, Second}
use Rattle.gather_command.specs.declared.fault.RecordFile.{RecordFile}
use Rattle.gather_command.specs.declared.fault.Flaw.{Flaw}
use Rattle.gather_command.specs.declared.fault.FlawKind.{FlawKind}
use Rattle.gather_command.specs.declared.fault.FlawKind.TheVariants as kind
use Rattle.gather_command.specs.declared.fault.GatherFault.{GatherFault}
use Rattle.gather_command.specs.declared.fault.GatherFault.TheVariants as fault
use Rattle.gather_command.specs.Reading.{IsReadOn, start_of}
use Rattle.gather_command.specs.View.{FileView, NodeRecordView}

-- what there is, as a list
abbrev pub listed : {X : Type 0} → Option X → List X
listed None = []
listed (Some x) = x ∷ []

-- the flaw of a file whose last entry that was read is of this instant
abbrev pub flaw_at : RecordFile → ℕ → Option FlawKind → Option Flaw
flaw_at file instant None = None
flaw_at file instant (Some kind) = Some (record { file = file; kind = kind; instant = instant })

-- the flaw of a file that gave these entries
abbrev pub flaw_of : RecordFile → List Entry → Option FlawKind → Option Flaw
flaw_of file es kind = flaw_at file (instant_after 0 es) kind

-- a file begins with the start of this node's state, or gives no entries
abbrev pub StartsWith : ℕ → ℕ → List Entry → Type 0
StartsWith mark v [] = Unit {0}
StartsWith mark v (e ∷ es) = e.noted ≡ start_of mark v

-- A file of v's record is read like this: it begins with the start of v's state, in the network with
-- this number; and nothing is wrong with it if it has no entries. `Reads` says how files are read.
pub record IsFileOf (Reads : ℕ → Side → List Entry → Option FlawKind → Type 0) (mark v : ℕ) (side : Side)
    (es : List Entry) (flaw : Option FlawKind) : Type 0 where
  pub read : Reads v side es flaw
  pub start : StartsWith mark v es
  pub none : es ≡ [] → flaw ≡ None

-- the first entry of one list is earlier than that of the other; both lists have entries
abbrev pub starts_earlier : List Entry → List Entry → Bool
starts_earlier [] fs = false
starts_earlier (e ∷ es) [] = false
starts_earlier (e ∷ es) (f ∷ fs) = nat_lt e.instant f.instant

-- v's record gives these entries: those of its two files, the earlier one first; and these are the
-- flaws of its files, in the same order
pub record IsRecordOf (Reads : ℕ → Side → List Entry → Option FlawKind → Type 0) (mark v : ℕ)
    (es : List Entry) (flaws : List Flaw) : Type 0 where
  pub first : List Entry
  pub second : List Entry
  pub first_kind : Option FlawKind
  pub second_kind : Option FlawKind
  pub first_file : IsFileOf Reads mark v First first first_kind
  pub second_file : IsFileOf Reads mark v Second second second_kind
  pub some : es ≢ []
  pub entries : es ≡ (if starts_earlier second first then second ++ first else first ++ second)
  pub flaws_are : flaws
      ≡ (if starts_earlier second first
      then listed (flaw_of (record { node = v; side = Second }) second second_kind)
      ++ listed (flaw_of (record { node = v; side = First }) first first_kind)
      else listed (flaw_of (record { node = v; side = First }) first first_kind)
      ++ listed (flaw_of (record { node = v; side = Second }) second second_kind))

-- the records of the nodes from v on give these entries, and have these flaws
pub data AreRecordsOf (Reads : ℕ → Side → List Entry → Option FlawKind → Type 0) (mark : ℕ)
    : ℕ → List (List Entry) → List Flaw → Type 0 where
  NoMore : {v : ℕ} → AreRecordsOf Reads mark v [] []
  OneMore : {v : ℕ} {es : List Entry} {ess : List (List Entry)} (flaws more : List Flaw)
      → IsRecordOf Reads mark v es flaws → AreRecordsOf Reads mark (suc v) ess more
      → AreRecordsOf Reads mark v (es ∷ ess) (flaws ++ more)

-- Why a file is not begun: it cannot be read, or it has bytes but no entry can be read from them;
-- or its first entry is no start of a state, or the start of another network's or another node's;
-- or memory ran out. `Reads` says how files are read, and `Begins` which entry is the first.
abbrev pub IsFileFault : (ℕ → Side → List Entry → Option FlawKind → Type 0) → (ℕ → Side → Entry → Type 0)
    → ℕ → RecordFile → GatherFault → Type 0
IsFileFault Reads Begins mark file (fault.Absent v) = ⊥
IsFileFault Reads Begins mark file (fault.Unreadable f) =
    (f ≡ file) × Reads file.node file.side [] (Some kind.Unreadable)
IsFileFault Reads Begins mark file (fault.NoRecord f) =
    (f ≡ file) × (Reads file.node file.side [] (Some kind.Torn) ⊎ Reads file.node file.side [] (Some kind.Spoiled)
    ⊎ ((e : Entry) × Begins file.node file.side e × ((network v : ℕ) → e.noted ≢ start_of network v)))
IsFileFault Reads Begins mark file (fault.OtherNetwork f) =
    (f ≡ file) × (e : Entry) × (network : ℕ) × (v : ℕ) × Begins file.node file.side e
    × (e.noted ≡ start_of network v) × (network ≢ mark)
IsFileFault Reads Begins mark file (fault.OtherNode f v) =
    (f ≡ file) × (e : Entry) × Begins file.node file.side e
    × (e.noted ≡ start_of mark v) × (v ≢ file.node)
IsFileFault Reads Begins mark file fault.Output = ⊥
IsFileFault Reads Begins mark file fault.Memory = Unit {0}
IsFileFault Reads Begins mark file fault.TooMany = ⊥

-- why v's record is invalid: one of its files is, or neither of the two has an entry
abbrev pub IsRecordFault : (ℕ → Side → List Entry → Option FlawKind → Type 0) → (ℕ → Side → Entry → Type 0)
    → ℕ → ℕ → GatherFault → Type 0
IsRecordFault Reads Begins mark v why =
    IsFileFault Reads Begins mark (record { node = v; side = First }) why
    ⊎ IsFileFault Reads Begins mark (record { node = v; side = Second }) why
    ⊎ ((why ≡ fault.Absent v) × Reads v First [] None × Reads v Second [] None)

-- why the records of nodes below n are invalid: one of them is
abbrev pub IsFault : (ℕ → Side → List Entry → Option FlawKind → Type 0) → (ℕ → Side → Entry → Type 0)
    → ℕ → ℕ → GatherFault → Type 0
IsFault Reads Begins mark n why = (v : ℕ) × (v < n) × IsRecordFault Reads Begins mark v why

-- what a record gives from an entry on, while its later file is not read
abbrev pub ComesOf : Type 0 → NodeRecordView → Option FileView → List Entry → Option FlawKind
    → List Entry → List Flaw → Type 0
ComesOf Fails r None own kind es flaws =
    (es ≡ own) × (flaws ≡ listed r.earlier ++ listed (flaw_of r.present.file own kind))
ComesOf Fails r (Some later) own kind es flaws =
    (more : List Entry) × (more_kind : Option FlawKind)
    × IsReadOn Fails later.last no_frames later.bytes more more_kind
    × (es ≡ own ++ later.first ∷ more)
    × (flaws ≡ listed (flaw_of r.present.file own kind)
    ++ listed (flaw_of later.file (later.first ∷ more) more_kind))

-- what a record gives from its next entry on
abbrev pub ComesFrom : Type 0 → NodeRecordView → Option Entry → List Entry → List Flaw → Type 0
ComesFrom Fails r None es flaws = (es ≡ []) × (flaws ≡ listed r.earlier ++ listed r.flaw)
ComesFrom Fails r (Some e) es flaws =
    (more : List Entry) × (kind : Option FlawKind)
    × IsReadOn Fails r.present.last r.frames r.present.bytes more kind
    × ComesOf Fails r r.later (e ∷ more) kind es flaws

-- the entries that are still to come of a node's record, and the flaws that its files have in the end
abbrev pub IsToCome : Type 0 → NodeRecordView → List Entry → List Flaw → Type 0
IsToCome Fails r es flaws = ComesFrom Fails r r.head es flaws

-- the same for all nodes' records
abbrev pub AreToCome : Type 0 → List NodeRecordView → List (List Entry) → List Flaw → Type 0
AreToCome Fails [] ess flaws = (ess ≡ []) × (flaws ≡ [])
AreToCome Fails (r ∷ rs) ess flaws =
    (es : List Entry) × (rest : List (List Entry)) × (own : List Flaw) × (more : List Flaw)
    × IsToCome Fails r es own × AreToCome Fails rs rest more
    × (ess ≡ es ∷ rest) × (flaws ≡ own ++ more)

-- A file whose first entry was read: that is the start of its node's state, and what the file gives
-- from there on, it gives after that entry.
pub record IsBegunAs (Fails : Type 0) (Reads : ℕ → Side → List Entry → Option FlawKind → Type 0)
    (mark : ℕ) (file : RecordFile) (f : FileView) : Type 0 where
  pub name : f.file ≡ file
  pub start : f.first.noted ≡ start_of mark file.node
  pub read : (es : List Entry) (flaw : Option FlawKind) → IsReadOn Fails f.last no_frames f.bytes es flaw
      → Reads file.node file.side (f.first ∷ es) flaw

-- what comes of opening a file: it is begun, or has no entries, or is invalid
abbrev pub IsBegun : Type 0 → (ℕ → Side → List Entry → Option FlawKind → Type 0) → (ℕ → Side → Entry → Type 0)
    → ℕ → RecordFile → Result (Option FileView) GatherFault → Type 0
IsBegun Fails Reads Begins mark file (Ok (Some f)) = IsBegunAs Fails Reads mark file f
IsBegun Fails Reads Begins mark file (Ok None) = Reads file.node file.side [] None
IsBegun Fails Reads Begins mark file (Err why) = IsFileFault Reads Begins mark file why

-- whether a file's first entry is the start of its node's state
abbrev pub IsChecked : ℕ → RecordFile → Entry → Result (Unit {0}) GatherFault → Type 0
IsChecked mark file e (Ok x) = e.noted ≡ start_of mark file.node
IsChecked mark file e (Err why) = IsFileFault (λ v side es flaw. ⊥) (λ v side first. first ≡ e) mark file why

-- what comes of opening v's record: what it gives from its next entry on, it gives from its start on;
-- or it is invalid
abbrev pub IsOpened : Type 0 → (ℕ → Side → List Entry → Option FlawKind → Type 0) → (ℕ → Side → Entry → Type 0)
    → ℕ → ℕ → Result NodeRecordView GatherFault → Type 0
IsOpened Fails Reads Begins mark v (Ok r) =
    (es : List Entry) (flaws : List Flaw) → IsToCome Fails r es flaws → IsRecordOf Reads mark v es flaws
IsOpened Fails Reads Begins mark v (Err why) = IsRecordFault Reads Begins mark v why

-- a record at its first entry, of these files
abbrev pub at_first : FileView → Option FileView → NodeRecordView
at_first now later = record {
  present = now;
  later = later;
  frames = no_frames;
  head = Some now.first;
  earlier = None;
  flaw = None;
}

-- A record went on, in the same file, by an entry: what its file gives from now on, it gives after that
-- entry. If there is none, this is what is wrong with the file, if anything is.
abbrev pub IsReadBy : Type 0 → NodeRecordView → Result Entry (Option FlawKind) → NodeRecordView → Type 0
IsReadBy Fails old (Ok e) new =
    (es : List Entry) (flaw : Option FlawKind) → IsReadOn Fails new.present.last new.frames new.present.bytes es flaw
    → IsReadOn Fails old.present.last old.frames old.present.bytes (e ∷ es) flaw
IsReadBy Fails old (Err flaw) new = IsReadOn Fails old.present.last old.frames old.present.bytes [] flaw

-- a record at the end of its file, whose last entry that was read is of this instant: it goes on with
-- the later file, if there is one
abbrev pub after_file_with : Option FileView → Option Flaw → NodeRecordView → NodeRecordView
after_file_with None flaw r = record r { head = None; flaw = flaw }
after_file_with (Some later) flaw r =
    record r { present = later; later = None; frames = no_frames; head = Some later.first; earlier = flaw }

abbrev pub after_file : Option FlawKind → ℕ → NodeRecordView → NodeRecordView
after_file kind instant r = after_file_with r.later (flaw_at r.present.file instant kind) r

-- a record went on: what comes of it from now on comes after the entry that was next
abbrev pub GoesOn : Type 0 → NodeRecordView → NodeRecordView → Type 0
GoesOn Fails old new =
    (es : List Entry) (flaws : List Flaw) → IsToCome Fails new es flaws
    → IsToCome Fails old (listed old.head ++ es) flaws

-- a record of two files: the earlier one comes first
abbrev pub of_both : FileView → FileView → NodeRecordView
of_both first second =
    if nat_lt second.first.instant first.first.instant then at_first second (Some first)
    else at_first first (Some second)

-- a node's record of its two files, either of which may be none
abbrev pub of_files : ℕ → Option FileView → Option FileView → Result NodeRecordView GatherFault
of_files v None None = Err (fault.Absent v)
of_files v None (Some second) = Ok (at_first second None)
of_files v (Some first) None = Ok (at_first first None)
of_files v (Some first) (Some second) = Ok (of_both first second)

-- the flaws of a record that is read to its end, and of records
abbrev pub flaws_of : NodeRecordView → List Flaw
flaws_of r = listed r.earlier ++ listed r.flaw

abbrev pub flaws_in : List NodeRecordView → List Flaw
flaws_in [] = []
flaws_in (r ∷ rs) = flaws_of r ++ flaws_in rs
