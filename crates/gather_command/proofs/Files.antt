-- The entries of a file, one after the other, and the file after it.
use Rattle.std.proofs.Common.{◌≡◌, ◌∙◌, ap, sym, refl, subst, ℕ, List, [], ◌∷◌, ◌++◌, Result, Ok, Err, Option, Some, None, inl, inr}
use Rattle.record_pages.specs.Pages.{to_come, ReadsNext, FailsAsSource}
use Rattle.record_pages.specs.declared.stop.Stop.{Stop}
use Rattle.record_pages.specs.declared.stop.Stop.TheVariants as stop
use Rattle.record_pages.specs.flight_records.declared.entry.Entry.{Entry}
use Rattle.record_pages.specs.flight_records.declared.entry.Noted.{Noted}
use Rattle.record_pages.specs.flight_records.Frames.{FramesView}
use Rattle.record_pages.specs.flight_records.Again.{no_frames, frames_after, after_long, lengthened}
use Rattle.flight_recorder.specs.declared.recorder.Side.{Side}
use Rattle.gather_command.specs.declared.fault.RecordFile.{RecordFile}
use Rattle.gather_command.specs.declared.fault.Flaw.{Flaw}
use Rattle.gather_command.specs.declared.fault.FlawKind.{FlawKind}
use Rattle.gather_command.specs.declared.fault.FlawKind.TheVariants as kind
use Rattle.gather_command.specs.declared.fault.GatherFault.{GatherFault}
use Rattle.gather_command.specs.declared.fault.GatherFault.TheVariants as fault
use Rattle.gather_command.specs.Reading.{MayFail, IsReadOn, Unsaid, Ends, Tears, Spoils, Nameless, Stops, Further, in_full, start_of, IsFirstOf, flaw_for}
use Rattle.gather_command.specs.View.{FileView, NodeRecordView}
use Rattle.gather_command.specs.Records.{listed, flaw_at, flaw_of, IsFileFault, IsBegun, ComesOf, ComesFrom, IsToCome, after_file_with, GoesOn}

-- ---- one file

pub further : (C : Type 0) (last : ℕ) (frames : FramesView) (bytes : Option (List ℕ)) (e : Entry) (long : Noted)
    (after : Option (List ℕ)) (now : ℕ) → ReadsNext last (Ok e) bytes after now → lengthened frames e.noted ≡ Some long
    → (es : List Entry) (flaw : Option FlawKind) → IsReadOn C now (frames_after frames long) after es flaw
    → IsReadOn C last frames bytes (in_full e long ∷ es) flaw
further C last frames None e long after now r l es flaw on = Unsaid
further C last frames (Some bytes) e long after now (left, a, at, n) l es flaw on =
    Further at l (subst (λ (t : ℕ). IsReadOn C t (frames_after frames long) (Some left) es flaw) n
    (subst (λ (b : Option (List ℕ)). IsReadOn C now (frames_after frames long) b es flaw) a on))

pub nameless : (C : Type 0) (last : ℕ) (frames : FramesView) (bytes : Option (List ℕ)) (e : Entry)
    (after : Option (List ℕ)) (now : ℕ) → ReadsNext last (Ok e) bytes after now → lengthened frames e.noted ≡ None
    → IsReadOn C last frames bytes [] (Some kind.Spoiled)
nameless C last frames None e after now r l = Unsaid
nameless C last frames (Some bytes) e after now (left, a, at, n) l = Nameless at l

stops : (C : Type 0) (last : ℕ) (frames : FramesView) (bytes : Option (List ℕ)) (s : Stop)
    (after : Option (List ℕ)) (now : ℕ) → ReadsNext last (Err s) bytes after now → (s ≡ stop.Failed → C)
    → IsReadOn C last frames bytes [] (flaw_for s)
stops C last frames None s after now r f = Unsaid
stops C last frames (Some bytes) stop.End after now (a, n, e) f =
    subst (λ (b : List ℕ). IsReadOn C last frames (Some b) [] None) (sym e) Ends
stops C last frames (Some bytes) stop.Torn after now (a, n, some, e) f = Tears some e
stops C last frames (Some bytes) stop.Invalid after now (a, n, e) f = Spoils e
stops C last frames (Some bytes) stop.Failed after now r f = Stops (f refl)

-- a reader whose source failed has a source that may fail
pub may-fail : {S : Type 0} (failures : S → ℕ) (x y : S) (r : Result Entry Stop) → FailsAsSource r (failures x) (failures y)
    → r ≡ Err stop.Failed → MayFail failures
may-fail failures x y (Ok e) f h = absurd (cc h)
may-fail failures x y (Err stop.End) f h = absurd (cc h)
may-fail failures x y (Err stop.Torn) f h = absurd (cc h)
may-fail failures x y (Err stop.Invalid) f h = absurd (cc h)
may-fail failures x y (Err stop.Failed) f h = (x, y, f.0, f.1)

pub stops-with : (C : Type 0) (last : ℕ) (frames : FramesView) (bytes : Option (List ℕ)) (s : Stop) (flaw : Option FlawKind)
    (after : Option (List ℕ)) (now : ℕ) → flaw ≡ flaw_for s → ReadsNext last (Err s) bytes after now
    → (◌≡◌ {A = Result Entry Stop} (Err s) (Err stop.Failed) → C) → IsReadOn C last frames bytes [] flaw
stops-with C last frames bytes s flaw after now e r f =
    subst (λ (k : Option FlawKind). IsReadOn C last frames bytes [] k) (sym e)
    (stops C last frames bytes s after now r (λ h. f (ap Err h)))

-- ---- the first entry of a file

-- nothing is at hand
whole : (bytes : Option (List ℕ)) → to_come bytes [] ≡ bytes
whole None = refl
whole (Some bytes) = refl

-- a reader that has read nothing yet
pub fresh : {S : Type 0} (rest : S → Option (List ℕ)) (s t : S) (held : List ℕ) (last : ℕ) (r : Result Entry Stop)
    (after : Option (List ℕ)) (now : ℕ) → s ≡ t → held ≡ [] → last ≡ 0 → ReadsNext last r (to_come (rest s) held) after now
    → ReadsNext 0 r (rest t) after now
fresh rest s t held last r after now p q z x =
    subst (λ (b : Option (List ℕ)). ReadsNext 0 r b after now) (whole (rest s) ∙ ap rest p)
    (subst (λ (h : List ℕ). ReadsNext 0 r (to_come (rest s) h) after now) q
    (subst (λ (n : ℕ). ReadsNext n r (to_come (rest s) held) after now) z x))

-- it stops in this way
pub first-stops : {S : Type 0} (rest : S → Option (List ℕ)) (failures : S → ℕ) (s t left : S) (held page : List ℕ) (last now : ℕ)
    (why named : Stop) → (s ≡ t) × (held ≡ []) × (last ≡ 0) → why ≡ named
    → ReadsNext last (Err why) (to_come (rest s) held) (to_come (rest left) page) now
    → FailsAsSource (Err why) (failures s) (failures left)
    → IsReadOn (MayFail failures) 0 no_frames (rest t) [] (flaw_for named)
first-stops rest failures s t left held page last now why named (p, q, z) e r cause =
    let after = to_come (rest left) page in
    stops-with (MayFail failures) 0 no_frames (rest t) why (flaw_for named) after now (sym (ap flaw_for e))
    (fresh rest s t held last (Err why) after now p q z r) (may-fail failures s left (Err why) cause)

-- the start of a state is its own long form, and forgets all frames
start-long : (n : Noted) (mark v : ℕ) → n ≡ start_of mark v → lengthened no_frames n ≡ Some n
start-long n mark v s = subst (λ (x : Noted). lengthened no_frames x ≡ Some x) (sym s) refl

start-frames : (n : Noted) (mark v : ℕ) → n ≡ start_of mark v → frames_after no_frames n ≡ no_frames
start-frames n mark v s = subst (λ (x : Noted). frames_after no_frames x ≡ no_frames) (sym s) refl

pub begins : (C : Type 0) (bytes : Option (List ℕ)) (e : Entry) (mark v : ℕ) (after : Option (List ℕ)) (now : ℕ)
    → e.noted ≡ start_of mark v → ReadsNext 0 (Ok e) bytes after now
    → (es : List Entry) (flaw : Option FlawKind) → IsReadOn C now no_frames after es flaw
    → IsReadOn C 0 no_frames bytes (e ∷ es) flaw
begins C bytes e mark v after now s r es flaw on =
    further C 0 no_frames bytes e e.noted after now r (start-long e.noted mark v s) es flaw
    (subst (λ (f : FramesView). IsReadOn C now f after es flaw) (sym (start-frames e.noted mark v s)) on)

pub first-of : (bytes : Option (List ℕ)) (e : Entry) (after : Option (List ℕ)) (now : ℕ)
    → ReadsNext 0 (Ok e) bytes after now → IsFirstOf bytes e
first-of None e after now r = tt
first-of (Some bytes) e after now (left, a, at, n) = (left, at)

-- ---- one entry more

pub read-further : (C : Type 0) (last : ℕ) (frames : FramesView) (bytes : Option (List ℕ)) (e : Entry) (long : Noted)
    (after : Option (List ℕ)) (now : ℕ) (left : FramesView) → ReadsNext last (Ok e) bytes after now
    → Some long ≡ lengthened frames e.noted → left ≡ after_long frames (lengthened frames e.noted)
    → (es : List Entry) (flaw : Option FlawKind) → IsReadOn C now left after es flaw
    → IsReadOn C last frames bytes (in_full e long ∷ es) flaw
read-further C last frames bytes e long after now left r l f es flaw on =
    further C last frames bytes e long after now r (sym l) es flaw
    (subst (λ (x : FramesView). IsReadOn C now x after es flaw) (f ∙ ap (after_long frames) (sym l)) on)

-- ---- a fault stays one if more is known of how files are read

pub fault-as : (R S : ℕ → Side → List Entry → Option FlawKind → Type 0) (B D : ℕ → Side → Entry → Type 0)
    (mark : ℕ) (file : RecordFile) (f : GatherFault)
    → ((es : List Entry) (flaw : Option FlawKind) → R file.node file.side es flaw → S file.node file.side es flaw)
    → ((e : Entry) → B file.node file.side e → D file.node file.side e)
    → IsFileFault R B mark file f → IsFileFault S D mark file f
fault-as R S B D mark file (fault.Absent v) m b x = x
fault-as R S B D mark file (fault.Unreadable g) m b (e, r) = (e, m [] (Some kind.Unreadable) r)
fault-as R S B D mark file (fault.NoRecord g) m b (e, inl r) = (e, inl (m [] (Some kind.Torn) r))
fault-as R S B D mark file (fault.NoRecord g) m b (e, inr (inl r)) = (e, inr (inl (m [] (Some kind.Spoiled) r)))
fault-as R S B D mark file (fault.NoRecord g) m b (e, inr (inr (first, r, no_start))) =
    (e, inr (inr (first, b first r, no_start)))
fault-as R S B D mark file (fault.OtherNetwork g) m b (e, first, network, v, r, s, o) =
    (e, first, network, v, b first r, s, o)
fault-as R S B D mark file (fault.OtherNode g v) m b (e, first, r, s, o) = (e, first, b first r, s, o)
fault-as R S B D mark file fault.Output m b x = x
fault-as R S B D mark file fault.Memory m b x = x
fault-as R S B D mark file fault.TooMany m b x = x

pub begun-as : (C : Type 0) (R S : ℕ → Side → List Entry → Option FlawKind → Type 0) (B D : ℕ → Side → Entry → Type 0)
    (mark : ℕ) (file : RecordFile) (r : Result (Option FileView) GatherFault)
    → ((es : List Entry) (flaw : Option FlawKind) → R file.node file.side es flaw → S file.node file.side es flaw)
    → ((e : Entry) → B file.node file.side e → D file.node file.side e)
    → IsBegun C R B mark file r → IsBegun C S D mark file r
begun-as C R S B D mark file (Ok (Some f)) m b x = record {
  name = x.name;
  start = x.start;
  read = λ es flaw on. m (f.first ∷ es) flaw (x.read es flaw on);
}
begun-as C R S B D mark file (Ok None) m b x = m [] None x
begun-as C R S B D mark file (Err f) m b x = fault-as R S B D mark file f m b x

-- ---- a record goes on

pub stands : (C : Type 0) (r : NodeRecordView) → r.head ≡ None → GoesOn C r r
stands C r h es flaws x = subst (λ (o : Option Entry). IsToCome C r (listed o ++ es) flaws) (sym h) x

-- what comes of a record whose next entry is this one
comes : (C : Type 0) (r : NodeRecordView) (e : Entry) (es : List Entry) (flaws : List Flaw) → r.head ≡ Some e
    → ComesFrom C r (Some e) (e ∷ es) flaws → IsToCome C r (listed r.head ++ es) flaws
comes C r e es flaws h x =
    subst (λ (o : Option Entry). ComesFrom C r o (listed o ++ es) flaws) (sym h) x

-- one entry more in front
longer : (C : Type 0) (old new : NodeRecordView) (passed e : Entry) (more es : List Entry) (kind : Option FlawKind)
    (flaws : List Flaw) (later : Option FileView) → new.present.file ≡ old.present.file → new.earlier ≡ old.earlier
    → ComesOf C new later (e ∷ more) kind es flaws → ComesOf C old later (passed ∷ e ∷ more) kind (passed ∷ es) flaws
longer C old new passed e more es kind flaws None f a (x, y) = (
  ap (λ (l : List Entry). passed ∷ l) x,
  y ∙ ap (λ (o : Option Flaw). listed o ++ listed (flaw_of new.present.file (e ∷ more) kind)) a
      ∙ ap (λ (file : RecordFile). listed old.earlier ++ listed (flaw_of file (e ∷ more) kind)) f,
)
longer C old new passed e more es kind flaws (Some later) f a (next, next_kind, on, x, y) = (
  next,
  next_kind,
  on,
  ap (λ (l : List Entry). passed ∷ l) x,
  y ∙ ap (λ (file : RecordFile). listed (flaw_of file (e ∷ more) kind)
      ++ listed (flaw_of later.file (later.first ∷ next) next_kind)) f,
)

pub goes-further : (C : Type 0) (old new : NodeRecordView) (passed e : Entry) → old.head ≡ Some passed → new.head ≡ Some e
    → new.present.file ≡ old.present.file → new.earlier ≡ old.earlier → new.later ≡ old.later
    → ((es : List Entry) (flaw : Option FlawKind) → IsReadOn C new.present.last new.frames new.present.bytes es flaw
    → IsReadOn C old.present.last old.frames old.present.bytes (e ∷ es) flaw)
    → GoesOn C old new
goes-further C old new passed e h i f a l read es flaws x =
    let y : ComesFrom C new (Some e) es flaws = subst (λ (o : Option Entry). ComesFrom C new o es flaws) i x in
    let (more, kind, on, z) = y in
    comes C old passed es flaws h (
      e ∷ more,
      kind,
      read more kind on,
      subst (λ (o : Option FileView). ComesOf C old o (passed ∷ e ∷ more) kind (passed ∷ es) flaws) l
          (longer C old new passed e more es kind flaws new.later f a z),
    )

-- a record at the end of a file, with this one after it
ends-with : (C : Type 0) (old s : NodeRecordView) (passed : Entry) (kind : Option FlawKind) (later : Option FileView)
    → s.present.file ≡ old.present.file → s.earlier ≡ old.earlier → (es : List Entry) (flaws : List Flaw)
    → IsToCome C (after_file_with later (flaw_at s.present.file passed.instant kind) s) es flaws
    → ComesOf C old later (passed ∷ []) kind (passed ∷ es) flaws
ends-with C old s passed kind None f a es flaws (x, y) = (
  ap (λ (l : List Entry). passed ∷ l) x,
  y ∙ ap (λ (o : Option Flaw). listed o ++ listed (flaw_at s.present.file passed.instant kind)) a
      ∙ ap (λ (file : RecordFile). listed old.earlier ++ listed (flaw_at file passed.instant kind)) f,
)
ends-with C old s passed kind (Some later) f a es flaws (more, more_kind, on, (x, y)) = (
  more,
  more_kind,
  on,
  ap (λ (l : List Entry). passed ∷ l) x,
  y ∙ ap (λ (file : RecordFile). listed (flaw_at file passed.instant kind)
      ++ listed (flaw_of later.file (later.first ∷ more) more_kind)) f,
)

pub goes-over : (C : Type 0) (old s : NodeRecordView) (passed : Entry) (kind : Option FlawKind)
    → old.head ≡ Some passed → s.present.file ≡ old.present.file → s.earlier ≡ old.earlier → s.later ≡ old.later
    → IsReadOn C old.present.last old.frames old.present.bytes [] kind
    → GoesOn C old (after_file_with s.later (flaw_at s.present.file passed.instant kind) s)
goes-over C old s passed kind h f a l on es flaws x =
    comes C old passed es flaws h (
      [],
      kind,
      on,
      subst (λ (o : Option FileView). ComesOf C old o (passed ∷ []) kind (passed ∷ es) flaws) l
          (ends-with C old s passed kind s.later f a es flaws x),
    )
