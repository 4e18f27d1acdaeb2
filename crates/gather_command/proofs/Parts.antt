-- A stretch of the records is gathered.
use Rattle.std.proofs.Common.{◌≡◌, ◌∙◌, ap, sym, refl, subst, ℕ, suc, ◌<◌, ◌≤◌, ◌⊎◌, arith, List, [], ◌∷◌, ◌++◌, Option, Some, None, Err, Bool, true, false, inl, inr, length, replicate}
use Rattle.std.proofs.lemmas.List.Sums.{fold-append}
use Rattle.std.specs.Prelude.{fold}
use Rattle.topology.specs.Network.{Network}
use Rattle.node_recorder.specs.Turns.{network_mark}
use Rattle.record_gathering.specs.View.{gathered}
use Rattle.record_gathering.specs.Counts.{with_events, nothing}
use Rattle.record_gathering.specs.Order.{IsNext, head_of}
use Rattle.record_gathering.specs.configuration.run_model.World.{World}
use Rattle.record_gathering.specs.configuration.run_model.Start.{world_with_spares}
use Rattle.record_gathering.specs.configuration.run_model.declared.event.Event.{Event}
use Rattle.record_gathering.specs.flight_records.declared.entry.Entry.{Entry}
use Rattle.flight_recorder.specs.declared.recorder.Side.{Side}
use Rattle.gather_command.specs.declared.fault.Flaw.{Flaw}
use Rattle.gather_command.specs.declared.fault.FlawKind.{FlawKind}
use Rattle.gather_command.specs.declared.fault.GatherFault.{GatherFault}
use Rattle.gather_command.specs.declared.damage.Difference.{Difference}
use Rattle.gather_command.specs.declared.summary.RecordingSummary.{RecordingSummary}
use Rattle.gather_command.specs.View.{NodeRecordView, heads_in}
use Rattle.gather_command.specs.declared.records.Opened.{Opened}
use Rattle.gather_command.specs.Reading.{Reads, Begins, OpensNoMore}
use Rattle.gather_command.specs.WeavingView.{WeavingView}
use Rattle.gather_command.specs.Records.{AreRecordsOf, NoMore, OneMore, AreToCome, IsFault, flaws_in}
use Rattle.gather_command.specs.Weave.{Moment, moment_at, heads_of, events_of, IsLed, IsWoven}
use Rattle.gather_command.specs.Watch.{Seen, seen_after, seen_again, seen_of, numbers_of}
use Rattle.gather_command.specs.Woven.{world_in, IsAtStart, IsTurn, IsNoted, HasPassed, HasLed, IsCut, AreEarlier, IsOnePassed, ArePassed}
use Rattle.gather_command.specs.Scene.{events_to}
use Rattle.gather_command.specs.declared.fault.GatherFault.TheVariants as fault
use Rattle.gather_command.specs.Gathered.{AreOpened, IsRefused}
use Rattle.gather_command.specs.declared.stretch.TimeStretch.{TimeStretch}
use Rattle.gather_command.specs.declared.stretch.TimeStretch.TheVariants as stretch
use Rattle.gather_command.specs.Stretch.{after_first, least_of}
use Rattle.gather_command.specs.Part.{IsFromThenOn, seen_from, IsGatheredOf, IsGatheredFrom, IsGatheredAs, IsBeforeLast, IsWovenFrom}
use Rattle.gather_command.proofs.Gathers.{record-as, reads-before, opened-before, fault-refused}
use Rattle.gather_command.proofs.Weaves.{heads-agree, one-leads, none-leads, both-lead, was-all}

-- ---- entries pass, and their events go nowhere

pub one-led : (C : Type 0) (w mid new : WeavingView) (v : ℕ) (e : Entry) → IsTurn w (Some (v, e)) → IsNoted w v e mid
    → (world_in mid).net.nodes ≡ (world_in w).net.nodes → HasPassed C mid v new → HasLed C w (moment_at (world_in w) w.gathering.queues v e ∷ []) new
one-led C w mid new v e turn noted number passed = record {
  leads = one-leads C w v e mid new turn noted passed;
  seen = let (before, after, g, on, is) = passed in ap (λ (x : WeavingView). x.seen) is ∙ noted.seen;
  nodes = let (before, after, g, on, is) = passed in ap (λ (x : WeavingView). (world_in x).net.nodes) is ∙ number;
}

pub none-led : (C : Type 0) (w : WeavingView) → HasLed C w [] w
none-led C w = record { leads = none-leads C w; seen = refl; nodes = refl }

both-led : (C : Type 0) (a b c : WeavingView) (ms ns : List Moment) → HasLed C a ms b → HasLed C b ns c → HasLed C a (ms ++ ns) c
both-led C a b c ms ns x y = record {
  leads = both-lead C a b c ms ns x.leads y.leads;
  seen = y.seen ∙ ap (λ (z : Seen). fold seen_after z ns) x.seen ∙ sym (fold-append seen_after a.seen ms ns);
  nodes = y.nodes ∙ x.nodes;
}

earlier-more : (instant : ℕ) (ms : List Moment) (m : Moment) → AreEarlier instant ms → m.entry.instant < instant
    → AreEarlier instant (ms ++ m ∷ [])
earlier-more instant [] m all one = (one, tt)
earlier-more instant (x ∷ ms) m all one = (all.0, earlier-more instant ms m all.1 one)

-- these entries passed so far
pub record HavePassed (C : Type 0) (instant : ℕ) (old : WeavingView) (ms : List Moment) (new : WeavingView) : Type 0 where
  pub led : HasLed C old ms new
  pub earlier : AreEarlier instant ms

pub none-passed : (C : Type 0) (instant : ℕ) (w : WeavingView) → HavePassed C instant w [] w
none-passed C instant w = record { led = none-led C w; earlier = tt }

pub passed-more : (C : Type 0) (instant : ℕ) (a b c : WeavingView) (ms : List Moment) (more : Bool) → more ≡ true
    → HavePassed C instant a ms b → IsOnePassed C instant b more c
    → (ns : List Moment) × HavePassed C instant a ns c
passed-more C instant a b c ms true e x (m, led, one) =
    (ms ++ m ∷ [], record { led = both-led C a b c ms (m ∷ []) x.led led; earlier = earlier-more instant ms m x.earlier one })
passed-more C instant a b c ms false e x y = absurd (cc e)

pub passed-all : (C : Type 0) (instant : ℕ) (a b c : WeavingView) (ms : List Moment) (more : Bool) → more ≡ false
    → HavePassed C instant a ms b → IsOnePassed C instant b more c → ArePassed C instant a ms c
passed-all C instant a b c ms true e x y = absurd (cc e)
passed-all C instant a b c ms false e x (same, cut) = record {
  led = subst (λ (w : WeavingView). HasLed C a ms w) (sym same) x.led;
  earlier = x.earlier;
  cut = subst (λ (w : WeavingView). IsCut instant w) (sym same) cut;
}

-- ---- all is gathered

from-then-on : (instant : ℕ) (w : WeavingView) (left : List (List Entry)) → heads_in w.records ≡ heads_of left → IsCut instant w
    → IsFromThenOn instant (world_in w) left
from-then-on instant w left same (inl (none, number)) =
    inl (subst (λ (hs : List (Option Entry)). IsNext (world_in w) hs (world_in w).net.nodes None) same none)
from-then-on instant w left same (inr (v, e, (turn, head, number), late)) = inr (
  v,
  e,
  subst (λ (hs : List (Option Entry)). IsNext (world_in w) hs (world_in w).net.nodes (Some v)) same turn,
  subst (λ (hs : List (Option Entry)). head_of hs v ≡ Some e) same head,
  late,
)

pub gathered-of : {K : Type 0} (C : Type 0) (takes : K → List Event → K → Type 0) (failures : K → ℕ)
    (takes_both : (a b c : K) (xs ys : List Event) → takes a xs b → takes b ys c → takes a (xs ++ ys) c)
    (net : Network) (instant : ℕ) (nodes : List NodeRecordView) (start final : WeavingView) (before after : K)
    (summary : RecordingSummary) (differences : List Difference) (flaws : List Flaw) → IsAtStart net nodes start
    → IsWovenFrom C takes failures net instant start before summary differences flaws final after
    → IsGatheredOf C takes net instant nodes before summary differences flaws after
gathered-of C takes failures takes_both net instant nodes start final before after summary differences flaws at x =
    let front = x.front in
    let mid = x.mid in
    let moved = x.moved in
    let (scene, set, same) = x.set in
    let back = x.rest.moments in
    let has = x.rest.woven in
    let shown = x.rest.shown in
    let world = world_in mid in
    let es = events_to net world in
    let all = was-all C moved final back has.leads x.rest.none_left in
    let left = all.before in
    let left_come : AreToCome C mid.records left (flaws_in final.records) =
    subst (λ (w : WeavingView). AreToCome C w.records left (flaws_in final.records)) same all.come in
    let (entries, come, led) = x.passed.led.leads left (flaws_in final.records) left_come in
    let begun : IsLed (world_in start) start.gathering.queues entries front world mid.gathering.queues left = led in
    let begun_at : IsLed (world_with_spares net 8) (replicate net.nodes []) entries front world mid.gathering.queues left =
    subst (λ (w : World). IsLed w (replicate net.nodes []) entries front world mid.gathering.queues left) at.world
    (subst (λ (q : List (List ℕ)). IsLed (world_in start) q entries front world mid.gathering.queues left) at.queues begun) in
    let woven_mid : IsWoven (gathered scene.gathering) mid.gathering.queues left back =
    subst (λ (w : WeavingView). IsWoven (world_in w) w.gathering.queues left back) same all.woven in
    let first : mid.seen ≡ seen_of net.nodes front = x.passed.led.seen ∙ ap (λ (s : Seen). fold seen_after s front) at.seen in
    let again : moved.seen ≡ seen_again (seen_of net.nodes front) (with_events nothing es) =
    ap (λ (w : WeavingView). w.seen) same ∙ ap (λ (s : Seen). seen_again s scene.found) first
    ∙ ap (seen_again (seen_of net.nodes front)) set.found in
    let seen : final.seen ≡ seen_from net.nodes front es back = has.seen ∙ ap (λ (s : Seen). fold seen_after s back) again in
    record {
      entries = entries;
      come = subst (λ (fs : List Flaw). AreToCome C nodes entries fs) (sym shown.flaws_are)
          (subst (λ (l : List NodeRecordView). AreToCome C l entries (flaws_in final.records)) at.records_are come);
      part = record {
        front = front;
        back = back;
        world = world;
        queues = mid.gathering.queues;
        left = left;
        begun = begun_at;
        earlier = x.passed.earlier;
        cut = from-then-on instant mid left (sym (heads-agree C mid.records left (flaws_in final.records) left_come)) x.passed.cut;
        woven = subst (λ (w : World). IsWoven w mid.gathering.queues left back) set.world woven_mid;
        taken = takes_both before x.between after es (events_of back) set.taken has.taken;
        numbers = shown.numbers ∙ ap (numbers_of net.nodes) seen;
        differences_are = shown.differences_are ∙ ap (λ (s : Seen). s.damage.shown) seen;
      };
    }

-- the sink has failed at least as often as before
pub from-counted : {K : Type 0} (C : Type 0) (takes : K → List Event → K → Type 0) (failures : K → ℕ) (net : Network) (instant : ℕ)
    (start final : WeavingView) (before after : K) (summary : RecordingSummary) (differences : List Difference) (flaws : List Flaw)
    → IsWovenFrom C takes failures net instant start before summary differences flaws final after
    → failures before ≤ failures after
from-counted C takes failures net instant start final before after summary differences flaws x =
    let (scene, set, same) = x.set in omega (arith, set.counted, x.rest.woven.counted)

-- ---- records that were opened

records-as : (R S : ℕ → Side → List Entry → Option FlawKind → Type 0) (mark v : ℕ) (ess : List (List Entry)) (flaws : List Flaw)
    → ((u : ℕ) (s : Side) (xs : List Entry) (f : Option FlawKind) → R u s xs f → S u s xs f)
    → AreRecordsOf R mark v ess flaws → AreRecordsOf S mark v ess flaws
records-as R S mark v all both m NoMore = NoMore
records-as R S mark v all both m (OneMore {es = es} {ess = ess} flaws more x xs) =
    OneMore flaws more (record-as R S mark v es flaws (λ s es f y. m v s es f y) x) (records-as R S mark (suc v) ess more m xs)

-- what was opened afterwards gives what could be read before
pub opened-as : {S : Type 0} (before after : ℕ → Side → Opened S → Type 0) (rest : S → Option (List ℕ)) (C : Type 0)
    → OpensNoMore before after → (mark v : ℕ) (rs : List NodeRecordView)
    → AreOpened C (Reads after rest C) mark v rs → AreOpened C (Reads before rest C) mark v rs
opened-as before after rest C same mark v rs opened entries flaws come =
    let (records, n) = opened entries flaws come in (
      records-as (Reads after rest C) (Reads before rest C) mark v entries flaws
          (λ u s xs f x. reads-before before after rest C same u s xs f x) records,
      n,
    )

pub fault-before : {S : Type 0} (before after : ℕ → Side → Opened S → Type 0) (rest : S → Option (List ℕ)) (C : Type 0)
    → OpensNoMore before after → (mark n : ℕ) (why : GatherFault)
    → IsFault (Reads after rest C) (Begins after rest) mark n why → IsFault (Reads before rest C) (Begins before rest) mark n why
fault-before before after rest C same mark n why (v, l, x) =
    (v, l, opened-before before after rest C same mark mark v refl (Err why) x)

-- from an instant that the entries say
gathered-from : {K : Type 0} (C : Type 0) (R : ℕ → Side → List Entry → Option FlawKind → Type 0)
    (takes : K → List Event → K → Type 0) (net : Network) (BeginsAt : List (List Entry) → ℕ → Type 0) (instant : ℕ)
    (nodes : List NodeRecordView) (before after : K) (summary : RecordingSummary) (differences : List Difference) (flaws : List Flaw)
    → AreOpened C R (network_mark net) 0 nodes → length nodes ≡ net.nodes
    → ((entries : List (List Entry)) → heads_of entries ≡ heads_in nodes → BeginsAt entries instant)
    → IsGatheredOf C takes net instant nodes before summary differences flaws after
    → IsGatheredFrom R takes net BeginsAt before summary differences flaws after
gathered-from C R takes net BeginsAt instant nodes before after summary differences flaws opened number begins x =
    let (records, n) = opened x.entries flaws x.come in
    record {
      entries = x.entries;
      instant = instant;
      records = records;
      all = n ∙ number;
      begins = begins x.entries (heads-agree C nodes x.entries flaws x.come);
      part = x.part;
    }

-- where a stretch begins, of records whose next entries are these
abbrev pub BeginsAs : TimeStretch → (ℕ → Side → List Entry → Option FlawKind → Type 0) → Network → List (Option Entry) → ℕ → Type 0
BeginsAs stretch.Whole R net heads instant = ⊥
BeginsAs (stretch.From seconds) R net heads instant = instant ≡ after_first (least_of heads) seconds
BeginsAs (stretch.Last seconds) R net heads instant = IsBeforeLast R net seconds instant

pub gathered-as : {K : Type 0} (C : Type 0) (R : ℕ → Side → List Entry → Option FlawKind → Type 0)
    (takes : K → List Event → K → Type 0) (net : Network) (s : TimeStretch) (instant : ℕ)
    (nodes : List NodeRecordView) (before after : K) (summary : RecordingSummary) (differences : List Difference) (flaws : List Flaw)
    → AreOpened C R (network_mark net) 0 nodes → length nodes ≡ net.nodes → BeginsAs s R net (heads_in nodes) instant
    → IsGatheredOf C takes net instant nodes before summary differences flaws after
    → IsGatheredAs s R takes net before summary differences flaws after
gathered-as C R takes net stretch.Whole instant nodes before after summary differences flaws opened number begins x = absurd begins
gathered-as C R takes net (stretch.From seconds) instant nodes before after summary differences flaws opened number begins x =
    gathered-from C R takes net _ instant nodes before after summary differences flaws opened number
    (λ entries same. begins ∙ ap (λ (hs : List (Option Entry)). after_first (least_of hs) seconds) (sym same)) x
gathered-as C R takes net (stretch.Last seconds) instant nodes before after summary differences flaws opened number begins x =
    gathered-from C R takes net _ instant nodes before after summary differences flaws opened number (λ entries same. begins) x

-- why the latest entry was not found: nothing was written
pub many-refused : {K : Type 0} (R : ℕ → Side → List Entry → Option FlawKind → Type 0) (B : ℕ → Side → Entry → Type 0)
    (failures : K → ℕ) (net : Network) (sink : K) (f : GatherFault)
    → (f ≡ fault.TooMany) ⊎ IsFault R B (network_mark net) net.nodes f → IsRefused R B failures net sink f sink
many-refused R B failures net sink f (inl e) = subst (λ (g : GatherFault). IsRefused R B failures net sink g sink) (sym e) tt
many-refused R B failures net sink f (inr x) = fault-refused R B failures net sink sink f x refl
