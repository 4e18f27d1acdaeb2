-- Records are read to their ends, one after the other.
use Rattle.std.proofs.Common.{◌≡◌, ◌∙◌, ap, sym, refl, subst, arith, ℕ, suc, ◌+◌, ◌-◌, ◌^◌, ◌<◌, List, [], ◌∷◌, ◌++◌, Option, Some, None, length, take, append_assoc}
use Rattle.std.proofs.lemmas.List.{append-nil, length-append, map-append, take_more}
use Rattle.std.proofs.lemmas.List.Sums.{fold-append}
use Rattle.std.specs.Prelude.{max, slice_index_or}
use Rattle.record_gathering.specs.flight_records.declared.entry.Entry.{Entry}
use Rattle.flight_recorder.specs.declared.recorder.Side.{Side}
use Rattle.gather_command.specs.declared.fault.Flaw.{Flaw}
use Rattle.gather_command.specs.declared.fault.FlawKind.{FlawKind}
use Rattle.gather_command.specs.View.{NodeRecordView, heads_in}
use Rattle.gather_command.specs.Records.{listed, IsRecordOf, AreRecordsOf, NoMore, OneMore, IsToCome, GoesOn, flaws_of}
use Rattle.gather_command.specs.Stretch.{earlier_of, least_of, later_of, greatest_in, IsReadThrough}
use Rattle.gather_command.proofs.Weaves.{ended-one}

-- ---- the earliest of the next entries

pub earliest-step : (rs : List NodeRecordView) (i : ℕ) (r : NodeRecordView) (old new : ℕ) → r ≡ slice_index_or rs i r → i < length rs
    → new ≡ earlier_of old r.head → old ≡ least_of (heads_in (take i rs)) → new ≡ least_of (heads_in (take (i + 1) rs))
earliest-step rs i r old new same l one before =
    let first = take i rs in
    let least : List NodeRecordView → ℕ = λ xs. least_of (heads_in xs) in
    let more : (x : NodeRecordView) → least (first ++ x ∷ []) ≡ earlier_of (least first) x.head =
    λ x. ap least_of (map-append (λ (y : NodeRecordView). y.head) first (x ∷ []))
    ∙ fold-append earlier_of (2 ^ 64 - 1) (heads_in first) (x.head ∷ []) in
    one ∙ ap (λ (t : ℕ). earlier_of t r.head) before ∙ sym (more r)
    ∙ ap (λ (x : NodeRecordView). least (first ++ x ∷ [])) same
    ∙ sym (ap least (take_more rs i r l))

-- ---- one record

-- a record was read on by these entries; of their instants and a given one, this is the latest
pub record IsReadSoFar (C : Type 0) (old : NodeRecordView) (greatest : ℕ) (es : List Entry) (now : NodeRecordView) (latest : ℕ)
    : Type 0 where
  pub comes : (more : List Entry) (flaws : List Flaw) → IsToCome C now more flaws → IsToCome C old (es ++ more) flaws
  pub is_latest : latest ≡ later_of greatest es

pub read-nothing : (C : Type 0) (r : NodeRecordView) (greatest : ℕ) → IsReadSoFar C r greatest [] r greatest
read-nothing C r greatest = record { comes = λ more flaws x. x; is_latest = refl }

pub read-more : (C : Type 0) (old now new : NodeRecordView) (greatest latest later : ℕ) (es : List Entry) (e : Entry)
    → now.head ≡ Some e → later ≡ max latest e.instant → GoesOn C now new → IsReadSoFar C old greatest es now latest
    → (fs : List Entry) × IsReadSoFar C old greatest fs new later
read-more C old now new greatest latest later es e head is on x = (
  es ++ e ∷ [],
  record {
    comes = λ more flaws come.
        subst (λ (l : List Entry). IsToCome C old l flaws) (sym (append_assoc es (e ∷ []) more))
        (x.comes (e ∷ more) flaws
        (subst (λ (o : Option Entry). IsToCome C now (listed o ++ more) flaws) head (on more flaws come)));
    is_latest = is ∙ ap (λ (t : ℕ). max t e.instant) x.is_latest
        ∙ sym (fold-append (λ (t : ℕ) (f : Entry). max t f.instant) greatest es (e ∷ []));
  },
)

pub read-all : (C : Type 0) (old now : NodeRecordView) (greatest latest : ℕ) (es : List Entry) → now.head ≡ None
    → IsReadSoFar C old greatest es now latest → IsReadThrough C old greatest latest
read-all C old now greatest latest es head x = (
  es,
  flaws_of now,
  subst (λ (l : List Entry). IsToCome C old l (flaws_of now)) (append-nil es) (x.comes [] (flaws_of now) (ended-one C now head)),
  x.is_latest,
)

-- ---- one record after the other

module _ (R : ℕ → Side → List Entry → Option FlawKind → Type 0) (mark : ℕ) where
  records-more : (v n : ℕ) (ess : List (List Entry)) (flaws own : List Flaw) (es : List Entry) → n ≡ v + length ess
      → AreRecordsOf R mark v ess flaws → IsRecordOf R mark n es own → AreRecordsOf R mark v (ess ++ es ∷ []) (flaws ++ own)
  records-more v n all both own es same NoMore one =
      let here : n ≡ v = omega (arith, same) in
      subst (λ (l : List Flaw). AreRecordsOf R mark v (es ∷ []) l) (append-nil own)
      (OneMore own [] (subst (λ (u : ℕ). IsRecordOf R mark u es own) here one) NoMore)
  records-more v n all both own es same (OneMore {es = first} {ess = ess} flaws more x xs) one =
      let there : n ≡ suc v + length ess = omega (arith, same) in
      subst (λ (l : List Flaw). AreRecordsOf R mark v (first ∷ (ess ++ es ∷ [])) l) (sym (append_assoc flaws more own))
      (OneMore flaws (more ++ own) x (records-more (suc v) n ess more own es there xs one))

  -- the records of the first n nodes gave entries, of which this is the latest instant
  pub record AreReadThrough (n latest : ℕ) : Type 0 where
    pub entries : List (List Entry)
    pub flaws : List Flaw
    pub records : AreRecordsOf R mark 0 entries flaws
    pub all : length entries ≡ n
    pub is_latest : latest ≡ greatest_in entries

  pub none-through : AreReadThrough 0 0
  none-through = record { entries = []; flaws = []; records = NoMore; all = refl; is_latest = refl }

  pub one-through : (C : Type 0) (n greatest latest : ℕ) (r : NodeRecordView)
      → ((es : List Entry) (flaws : List Flaw) → IsToCome C r es flaws → IsRecordOf R mark n es flaws)
      → AreReadThrough n greatest → IsReadThrough C r greatest latest → AreReadThrough (n + 1) latest
  one-through C n greatest latest r opened x (es, own, come, is) = record {
    entries = x.entries ++ es ∷ [];
    flaws = x.flaws ++ own;
    records = records-more 0 n x.entries x.flaws own es (omega (arith, x.all)) x.records (opened es own come);
    all = length-append x.entries (es ∷ []) ∙ ap (λ (k : ℕ). k + 1) x.all;
    is_latest = is ∙ ap (λ (t : ℕ). later_of t es) x.is_latest ∙ sym (fold-append later_of 0 x.entries (es ∷ []));
  }
