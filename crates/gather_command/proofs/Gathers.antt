-- What was opened and woven is gathered.
use Rattle.std.proofs.Common.{◌≡◌, ◌∙◌, ap, sym, subst, arith, ℕ, suc, ◌+◌, ◌≤◌, List, [], ◌∷◌, ◌++◌, Option, None, Result, Ok, Err, inl, inr, length, replicate, append_assoc}
use Rattle.std.specs.Prelude.{fold, IfErr, IsErrAnd}
use Rattle.topology.specs.Network.{Network}
use Rattle.record_pages.specs.byte_streams.Streams.{Rose}
use Rattle.node_recorder.specs.Turns.{network_mark}
use Rattle.record_gathering.specs.configuration.run_model.World.{World}
use Rattle.record_gathering.specs.configuration.run_model.declared.event.Event.{Event}
use Rattle.record_gathering.specs.flight_records.declared.entry.Entry.{Entry}
use Rattle.flight_recorder.specs.declared.recorder.Side.{Side}
use Rattle.flight_recorder.specs.declared.recorder.Side.TheVariants.{First, Second}
use Rattle.gather_command.specs.declared.fault.Flaw.{Flaw}
use Rattle.gather_command.specs.declared.fault.FlawKind.{FlawKind}
use Rattle.gather_command.specs.declared.fault.GatherFault.{GatherFault}
use Rattle.gather_command.specs.declared.fault.GatherFault.TheVariants as fault
use Rattle.gather_command.specs.declared.damage.Difference.{Difference}
use Rattle.gather_command.specs.declared.summary.RecordingSummary.{RecordingSummary}
use Rattle.gather_command.specs.View.{NodeRecordView}
use Rattle.gather_command.specs.WeavingView.{WeavingView}
use Rattle.gather_command.specs.declared.records.Opened.{Opened}
use Rattle.gather_command.specs.Reading.{Reads, Begins, OpensNoMore}
use Rattle.gather_command.specs.Records.{IsFileOf, IsRecordOf, AreRecordsOf, NoMore, OneMore, IsToCome, AreToCome, IsRecordFault, IsFault, IsOpened, flaws_in}
use Rattle.gather_command.specs.Weave.{IsWoven}
use Rattle.gather_command.specs.Watch.{Seen, seen_after, seen_of, numbers_of}
use Rattle.gather_command.specs.Woven.{world_in, IsAtStart, IsBroken}
use Rattle.gather_command.specs.Gathered.{AreOpened, IsGathered, IsGatheredWhole, IsRefused, IsWovenOut}
use Rattle.gather_command.proofs.Files.{fault-as}
use Rattle.gather_command.proofs.Weaves.{was-all}

-- ---- what may be read afterwards may be read before

pub reads-before : {S : Type 0} (before after : ℕ → Side → Opened S → Type 0) (rest : S → Option (List ℕ)) (C : Type 0)
    → OpensNoMore before after → (v : ℕ) (side : Side) (es : List Entry) (flaw : Option FlawKind)
    → Reads after rest C v side es flaw → Reads before rest C v side es flaw
reads-before before after rest C same v side es flaw (o, opens, read) = (o, same v side o opens, read)

pub begins-before : {S : Type 0} (before after : ℕ → Side → Opened S → Type 0) (rest : S → Option (List ℕ))
    → OpensNoMore before after → (v : ℕ) (side : Side) (e : Entry) → Begins after rest v side e → Begins before rest v side e
begins-before before after rest same v side e (o, opens, first) = (o, same v side o opens, first)

file-as : (R S : ℕ → Side → List Entry → Option FlawKind → Type 0) (mark v : ℕ) (side : Side) (es : List Entry)
    (flaw : Option FlawKind) → ((s : Side) (xs : List Entry) (f : Option FlawKind) → R v s xs f → S v s xs f)
    → IsFileOf R mark v side es flaw → IsFileOf S mark v side es flaw
file-as R S mark v side es flaw m x = record { read = m side es flaw x.read; start = x.start; none = x.none }

pub record-as : (R S : ℕ → Side → List Entry → Option FlawKind → Type 0) (mark v : ℕ) (es : List Entry) (flaws : List Flaw)
    → ((s : Side) (xs : List Entry) (f : Option FlawKind) → R v s xs f → S v s xs f)
    → IsRecordOf R mark v es flaws → IsRecordOf S mark v es flaws
record-as R S mark v es flaws m x = record {
  first = x.first;
  second = x.second;
  first_kind = x.first_kind;
  second_kind = x.second_kind;
  first_file = file-as R S mark v First x.first x.first_kind m x.first_file;
  second_file = file-as R S mark v Second x.second x.second_kind m x.second_file;
  some = x.some;
  entries = x.entries;
  flaws_are = x.flaws_are;
}

pub record-fault-as : (R S : ℕ → Side → List Entry → Option FlawKind → Type 0) (B D : ℕ → Side → Entry → Type 0) (mark v : ℕ)
    (f : GatherFault) → ((s : Side) (xs : List Entry) (flaw : Option FlawKind) → R v s xs flaw → S v s xs flaw)
    → ((s : Side) (e : Entry) → B v s e → D v s e) → IsRecordFault R B mark v f → IsRecordFault S D mark v f
record-fault-as R S B D mark v f m b (inl x) =
    inl (fault-as R S B D mark (record { node = v; side = First }) f (m First) (b First) x)
record-fault-as R S B D mark v f m b (inr (inl x)) =
    inr (inl (fault-as R S B D mark (record { node = v; side = Second }) f (m Second) (b Second) x))
record-fault-as R S B D mark v f m b (inr (inr (e, x, y))) = inr (inr (e, m First [] None x, m Second [] None y))

-- what comes of opening a record afterwards may come of it before
pub opened-before : {S : Type 0} (before after : ℕ → Side → Opened S → Type 0) (rest : S → Option (List ℕ)) (C : Type 0)
    → OpensNoMore before after → (m mark v : ℕ) → m ≡ mark → (r : Result NodeRecordView GatherFault)
    → IsOpened C (Reads after rest C) (Begins after rest) m v r → IsOpened C (Reads before rest C) (Begins before rest) mark v r
opened-before before after rest C same m mark v e (Ok r) opened = λ es flaws x.
    subst (λ (n : ℕ). IsRecordOf (Reads before rest C) n v es flaws) e
    (record-as (Reads after rest C) (Reads before rest C) m v es flaws (λ s xs f y. reads-before before after rest C same v s xs f y)
    (opened es flaws x))
opened-before before after rest C same m mark v e (Err why) refused =
    subst (λ (n : ℕ). IsRecordFault (Reads before rest C) (Begins before rest) n v why) e
    (record-fault-as (Reads after rest C) (Reads before rest C) (Begins after rest) (Begins before rest) m v why
    (λ s xs f y. reads-before before after rest C same v s xs f y) (λ s first y. begins-before before after rest same v s first y)
    refused)

-- ---- records are opened one after the other

pub plus-one : (v : ℕ) → v + 1 ≡ suc v
plus-one v = omega arith

module _ (C : Type 0) (R : ℕ → Side → List Entry → Option FlawKind → Type 0) (mark : ℕ) where
  pub opened-none : (v : ℕ) → AreOpened C R mark v []
  opened-none v entries flaws (e, f) = (
    subst (λ (l : List (List Entry)). AreRecordsOf R mark v l flaws) (sym e)
        (subst (λ (l : List Flaw). AreRecordsOf R mark v [] l) (sym f) NoMore),
    ap length e,
  )

  opened-more : (v : ℕ) (r : NodeRecordView) (rest : List NodeRecordView)
      → ((es : List Entry) (flaws : List Flaw) → IsToCome C r es flaws → IsRecordOf R mark v es flaws)
      → AreOpened C R mark (suc v) rest → AreOpened C R mark v (r ∷ rest)
  opened-more v r rest one x entries flaws (es, ess, own, more, come, rest_come, e, f) =
      let (records, n) = x ess more rest_come in (
        subst (λ (l : List (List Entry)). AreRecordsOf R mark v l flaws) (sym e)
            (subst (λ (l : List Flaw). AreRecordsOf R mark v (es ∷ ess) l) (sym f) (OneMore own more (one es own come) records)),
        ap length e ∙ ap suc n,
      )

  pub next-opened : (v : ℕ) (nodes new : List NodeRecordView) (r : NodeRecordView)
      → ((rest : List NodeRecordView) → AreOpened C R mark v rest → AreOpened C R mark 0 (nodes ++ rest))
      → ((es : List Entry) (flaws : List Flaw) → IsToCome C r es flaws → IsRecordOf R mark v es flaws)
      → new ≡ nodes ++ r ∷ [] → (rest : List NodeRecordView) → AreOpened C R mark (v + 1) rest
      → AreOpened C R mark 0 (new ++ rest)
  next-opened v nodes new r before one same rest x =
      let here = before (r ∷ rest) (opened-more v r rest one (subst (λ (n : ℕ). AreOpened C R mark n rest) (plus-one v) x)) in
      subst (λ (l : List NodeRecordView). AreOpened C R mark 0 (l ++ rest)) (sym same)
      (subst (λ (l : List NodeRecordView). AreOpened C R mark 0 l) (sym (append_assoc nodes (r ∷ []) rest)) here)

-- ---- the exit of a `?`

pub fails-with : {T : Type 0} (P : GatherFault → Type 0) (r : Result T GatherFault) (why : GatherFault)
    → IsErrAnd r (λ y. y ≡ why) → P why → IfErr r P
fails-with P (Ok x) why e p = tt
fails-with P (Err y) why e p = subst P (sym e) p

-- ---- weaving breaks off

pub rose-later : (a b c : ℕ) → a ≤ b → Rose b c → Rose a c
rose-later a b c l (inl x) = inl (omega (arith, l, x))
rose-later a b c l (inr x) = inr x

pub broken-later : (f : GatherFault) (a b c : ℕ) → a ≤ b → IsBroken f b c → IsBroken f a c
broken-later fault.Output a b c l x = rose-later a b c l x
broken-later fault.Memory a b c l x = tt
broken-later fault.TooMany a b c l x = tt
broken-later (fault.Absent v) a b c l x = x
broken-later (fault.Unreadable f) a b c l x = x
broken-later (fault.NoRecord f) a b c l x = x
broken-later (fault.OtherNetwork f) a b c l x = x
broken-later (fault.OtherNode f v) a b c l x = x

module _ {K : Type 0} (R : ℕ → Side → List Entry → Option FlawKind → Type 0) (B : ℕ → Side → Entry → Type 0)
    (failures : K → ℕ) (net : Network) (before after : K) where
  pub broken-refused : (f : GatherFault) → IsBroken f (failures before) (failures after)
      → IsRefused R B failures net before f after
  broken-refused fault.Output x = x
  broken-refused fault.Memory x = tt
  broken-refused fault.TooMany x = tt
  broken-refused (fault.Absent v) x = absurd x
  broken-refused (fault.Unreadable f) x = absurd x
  broken-refused (fault.NoRecord f) x = absurd x
  broken-refused (fault.OtherNetwork f) x = absurd x
  broken-refused (fault.OtherNode f v) x = absurd x

  -- no record is refused because of the sink
  no-output : IsFault R B (network_mark net) net.nodes fault.Output → ⊥
  no-output (v, l, inl x) = x
  no-output (v, l, inr (inl x)) = x
  no-output (v, l, inr (inr (e, x, y))) = cc e

  pub fault-refused : (f : GatherFault) → IsFault R B (network_mark net) net.nodes f → after ≡ before
      → IsRefused R B failures net before f after
  fault-refused fault.Output x e = absurd (no-output x)
  fault-refused fault.Memory x e = tt
  fault-refused fault.TooMany x e = tt
  fault-refused (fault.Absent v) x e = (x, e)
  fault-refused (fault.Unreadable f) x e = (x, e)
  fault-refused (fault.NoRecord f) x e = (x, e)
  fault-refused (fault.OtherNetwork f) x e = (x, e)
  fault-refused (fault.OtherNode f v) x e = (x, e)

-- ---- all is gathered

pub gathered-whole : {K : Type 0} (C : Type 0) (takes : K → List Event → K → Type 0) (failures : K → ℕ) (net : Network)
    (nodes : List NodeRecordView) (start final : WeavingView) (before after : K) (summary : RecordingSummary)
    (differences : List Difference) (flaws : List Flaw) → IsAtStart net nodes start
    → IsWovenOut C takes failures net start before summary differences flaws final after
    → IsGatheredWhole C takes net nodes before summary differences flaws after
gathered-whole C takes failures net nodes start final before after summary differences flaws at x =
    let ms = x.moments in
    let all = was-all C start final ms x.woven.leads x.none_left in
    let from_queues : IsWoven (world_in start) (replicate net.nodes []) all.before ms =
    subst (λ (q : List (List ℕ)). IsWoven (world_in start) q all.before ms) at.queues all.woven in
    let seen : final.seen ≡ seen_of net.nodes ms = x.woven.seen ∙ ap (λ (s : Seen). fold seen_after s ms) at.seen in
    record {
      entries = all.before;
      moments = ms;
      come = subst (λ (fs : List Flaw). AreToCome C nodes all.before fs) (sym x.shown.flaws_are)
          (subst (λ (l : List NodeRecordView). AreToCome C l all.before (flaws_in final.records)) at.records_are all.come);
      woven = subst (λ (w : World). IsWoven w (replicate net.nodes []) all.before ms) at.world from_queues;
      taken = x.woven.taken;
      numbers = x.shown.numbers ∙ ap (numbers_of net.nodes) seen;
      differences_are = x.shown.differences_are ∙ ap (λ (s : Seen). s.damage.shown) seen;
    }

pub gathered : {K : Type 0} (C : Type 0) (R : ℕ → Side → List Entry → Option FlawKind → Type 0)
    (takes : K → List Event → K → Type 0) (net : Network) (nodes : List NodeRecordView) (before after : K) (summary : RecordingSummary)
    (differences : List Difference) (flaws : List Flaw) → AreOpened C R (network_mark net) 0 nodes → length nodes ≡ net.nodes
    → IsGatheredWhole C takes net nodes before summary differences flaws after
    → IsGathered R takes net before summary differences flaws after
gathered C R takes net nodes before after summary differences flaws opened number x =
    let (records, n) = opened x.entries flaws x.come in
    record {
      entries = x.entries;
      moments = x.moments;
      records = records;
      all = n ∙ number;
      woven = x.woven;
      taken = x.taken;
      numbers = x.numbers;
      differences_are = x.differences_are;
    }
