-- A record of two files, each of which may be missing.
use Rattle.std.proofs.Common.{◌≡◌, ◌≢◌, ◌∙◌, ap, sym, refl, subst, ℕ, List, [], ◌∷◌, ◌++◌, Ok, Option, Some, None, Bool, true, false, inr}
use Rattle.std.proofs.lemmas.List.{append-nil}
use Rattle.std.specs.Prelude.{if◌then◌else◌, nat_lt}
use Rattle.record_pages.specs.flight_records.declared.entry.Entry.{Entry}
use Rattle.record_pages.specs.flight_records.Again.{no_frames}
use Rattle.flight_recorder.specs.declared.recorder.Side.{Side}
use Rattle.flight_recorder.specs.declared.recorder.Side.TheVariants.{First, Second}
use Rattle.gather_command.specs.declared.fault.RecordFile.{RecordFile}
use Rattle.gather_command.specs.declared.fault.Flaw.{Flaw}
use Rattle.gather_command.specs.declared.fault.FlawKind.{FlawKind}
use Rattle.gather_command.specs.Reading.{IsReadOn}
use Rattle.gather_command.specs.View.{FileView}
use Rattle.gather_command.specs.Records.{listed, flaw_of, IsFileOf, IsRecordOf, IsBegun, IsBegunAs, IsOpened, at_first, of_files}

-- ---- files of a record

some-first : {X : Type 0} (x : X) (xs : List X) → x ∷ xs ≢ []
some-first x xs e = cc e

-- what two files gave, with that of the second in front if it is earlier
abbrev in-order : {X : Type 0} → Bool → List X → List X → List X
in-order earlier xs ys = if earlier then ys ++ xs else xs ++ ys

-- a file without entries
empty-file : (R : ℕ → Side → List Entry → Option FlawKind → Type 0) (mark v : ℕ) (side : Side) → R v side [] None
    → IsFileOf R mark v side [] None
empty-file R mark v side r = record { read = r; start = tt; none = λ e. refl }

-- a file that was begun
begun-file : (C : Type 0) (R : ℕ → Side → List Entry → Option FlawKind → Type 0) (mark v : ℕ) (side : Side) (f : FileView)
    (more : List Entry) (kind : Option FlawKind) → IsBegunAs C R mark (record { node = v; side = side }) f
    → IsReadOn C f.last no_frames f.bytes more kind → IsFileOf R mark v side (f.first ∷ more) kind
begun-file C R mark v side f more kind b on = record {
  read = b.read more kind on;
  start = b.start;
  none = λ e. absurd (some-first f.first more e);
}

-- its flaw names it
named : (C : Type 0) (R : ℕ → Side → List Entry → Option FlawKind → Type 0) (mark v : ℕ) (side : Side) (f : FileView)
    (es : List Entry) (kind : Option FlawKind) → IsBegunAs C R mark (record { node = v; side = side }) f
    → listed (flaw_of f.file es kind) ≡ listed (flaw_of (record { node = v; side = side }) es kind)
named C R mark v side f es kind b = ap (λ (file : RecordFile). listed (flaw_of file es kind)) b.name

module _ (C : Type 0) (R : ℕ → Side → List Entry → Option FlawKind → Type 0) (B : ℕ → Side → Entry → Type 0) (mark v : ℕ) where
  only-second : (s : FileView) → R v First [] None → IsBegunAs C R mark (record { node = v; side = Second }) s
      → IsOpened C R B mark v (Ok (at_first s None))
  only-second s none b es flaws (more, kind, on, (x, y)) = record {
    first = [];
    second = s.first ∷ more;
    first_kind = None;
    second_kind = kind;
    first_file = empty-file R mark v First none;
    second_file = begun-file C R mark v Second s more kind b on;
    some = λ e. some-first s.first more (sym x ∙ e);
    entries = x;
    flaws_are = y ∙ named C R mark v Second s (s.first ∷ more) kind b;
  }

  only-first : (f : FileView) → IsBegunAs C R mark (record { node = v; side = First }) f → R v Second [] None
      → IsOpened C R B mark v (Ok (at_first f None))
  only-first f b none es flaws (more, kind, on, (x, y)) = record {
    first = f.first ∷ more;
    second = [];
    first_kind = kind;
    second_kind = None;
    first_file = begun-file C R mark v First f more kind b on;
    second_file = empty-file R mark v Second none;
    some = λ e. some-first f.first more (sym x ∙ e);
    entries = x ∙ sym (append-nil (f.first ∷ more));
    flaws_are = y ∙ named C R mark v First f (f.first ∷ more) kind b
        ∙ sym (append-nil (listed (flaw_of (record { node = v; side = First }) (f.first ∷ more) kind)));
  }

  -- both files were begun; `earlier` says whether the second comes first
  of-two : (f s : FileView) → IsBegunAs C R mark (record { node = v; side = First }) f
      → IsBegunAs C R mark (record { node = v; side = Second }) s
      → (earlier : Bool) → nat_lt s.first.instant f.first.instant ≡ earlier → (es : List Entry) (flaws : List Flaw)
      → (own more : List Entry) (kind more_kind : Option FlawKind)
      → IsReadOn C f.last no_frames f.bytes own kind → IsReadOn C s.last no_frames s.bytes more more_kind → es ≢ []
      → es ≡ in-order earlier (f.first ∷ own) (s.first ∷ more)
      → flaws ≡ in-order earlier (listed (flaw_of f.file (f.first ∷ own) kind)) (listed (flaw_of s.file (s.first ∷ more) more_kind))
      → IsRecordOf R mark v es flaws
  of-two f s b d earlier order es flaws own more kind more_kind on next some x y =
      let file : RecordFile = record { node = v; side = First } in
      let other : RecordFile = record { node = v; side = Second } in
      record {
        first = f.first ∷ own;
        second = s.first ∷ more;
        first_kind = kind;
        second_kind = more_kind;
        first_file = begun-file C R mark v First f own kind b on;
        second_file = begun-file C R mark v Second s more more_kind d next;
        some = some;
        entries = subst (λ (t : Bool). es ≡ in-order t (f.first ∷ own) (s.first ∷ more)) (sym order) x;
        flaws_are = subst (λ (t : Bool). flaws ≡ in-order t (listed (flaw_of file (f.first ∷ own) kind)) (listed (flaw_of other (s.first ∷ more) more_kind)))
            (sym order)
            (y ∙ ap (λ (l : List Flaw). in-order earlier l (listed (flaw_of s.file (s.first ∷ more) more_kind))) (named C R mark v First f (f.first ∷ own) kind b)
            ∙ ap (in-order earlier (listed (flaw_of file (f.first ∷ own) kind))) (named C R mark v Second s (s.first ∷ more) more_kind d));
      }

  either : (b : Bool) (f s : FileView) → nat_lt s.first.instant f.first.instant ≡ b
      → IsBegunAs C R mark (record { node = v; side = First }) f
      → IsBegunAs C R mark (record { node = v; side = Second }) s
      → IsOpened C R B mark v (Ok (if b then at_first s (Some f) else at_first f (Some s)))
  either true f s order b d es flaws (own, kind, on, (more, more_kind, next, x, y)) =
      of-two f s b d true order es flaws more own more_kind kind next on
      (λ e. some-first s.first (own ++ f.first ∷ more) (sym x ∙ e)) x y
  either false f s order b d es flaws (own, kind, on, (more, more_kind, next, x, y)) =
      of-two f s b d false order es flaws own more kind more_kind on next
      (λ e. some-first f.first (own ++ s.first ∷ more) (sym x ∙ e)) x y

  pub opened : (first second : Option FileView) → IsBegun C R B mark (record { node = v; side = First }) (Ok first)
      → IsBegun C R B mark (record { node = v; side = Second }) (Ok second)
      → IsOpened C R B mark v (of_files v first second)
  opened None None x y = inr (inr (refl, x, y))
  opened None (Some s) x y = only-second s x y
  opened (Some f) None x y = only-first f x y
  opened (Some f) (Some s) x y = either (nat_lt s.first.instant f.first.instant) f s refl x y
