-- Entries are woven one after the other.
use Rattle.std.proofs.Common.{◌≡◌, ◌∙◌, ap, sym, refl, subst, arith, ℕ, zero, suc, ◌<◌, ◌≤◌, List, [], ◌∷◌, ◌++◌, Option, Some, None, Ok, Bool, true, false, length, drop, append_assoc}
use Rattle.std.proofs.lemmas.List.{append-nil}
use Rattle.std.proofs.lemmas.List.Sums.{fold-append}
use Rattle.std.specs.Prelude.{slice_get, slice_set, fold}
use Rattle.record_gathering.specs.configuration.run_model.World.{World}
use Rattle.record_gathering.specs.configuration.run_model.Run.{run}
use Rattle.record_gathering.specs.configuration.run_model.Laws.{FrameStays}
use Rattle.record_gathering.specs.configuration.run_model.declared.event.Event.{Event}
use Rattle.record_gathering.specs.flight_records.declared.entry.Entry.{Entry}
use Rattle.record_gathering.specs.Order.{IsNext, head_of}
use Rattle.record_gathering.specs.Queues.{queues_after}
use Rattle.gather_command.specs.declared.fault.Flaw.{Flaw}
use Rattle.gather_command.specs.declared.fault.FlawKind.{FlawKind}
use Rattle.gather_command.specs.View.{FileView, NodeRecordView, heads_in}
use Rattle.gather_command.specs.WeavingView.{WeavingView}
use Rattle.gather_command.specs.Records.{listed, flaws_in, ComesOf, ComesFrom, IsToCome, AreToCome, GoesOn}
use Rattle.gather_command.specs.Weave.{Moment, moment_at, events_at, world_after, events_of, next_of, heads_of, without_next, IsLed, Stays, Leads, IsWoven, NoneLeft, Next}
use Rattle.gather_command.specs.Watch.{Seen, seen_after}
use Rattle.gather_command.specs.Woven.{world_in, IsTurn, IsNoted, HasPassed, LeadsOn, HasWoven, IsOneWoven}

-- events do not change the number of nodes
pub nodes-stay : FrameStays → (w after : World) (es : List Event) → after ≡ run w es → after.net.nodes ≡ w.net.nodes
nodes-stay stays w after es e = ap (λ (x : World). x.net.nodes) e ∙ (stays w es).nodes

-- ---- what is to come begins with the next entry

next-of : (C : Type 0) (r : NodeRecordView) (later : Option FileView) (e : Entry) (more : List Entry) (kind : Option FlawKind)
    (es : List Entry) (flaws : List Flaw) → ComesOf C r later (e ∷ more) kind es flaws → next_of es ≡ Some e
next-of C r None e more kind es flaws (x, y) = ap next_of x
next-of C r (Some later) e more kind es flaws (next, next_kind, on, x, y) = ap next_of x

next-from : (C : Type 0) (r : NodeRecordView) (head : Option Entry) (es : List Entry) (flaws : List Flaw)
    → ComesFrom C r head es flaws → next_of es ≡ head
next-from C r None es flaws (x, y) = ap next_of x
next-from C r (Some e) es flaws (more, kind, on, x) = next-of C r r.later e more kind es flaws x

pub heads-agree : (C : Type 0) (rs : List NodeRecordView) (ess : List (List Entry)) (flaws : List Flaw)
    → AreToCome C rs ess flaws → heads_of ess ≡ heads_in rs
heads-agree C [] ess flaws (e, f) = ap heads_of e
heads-agree C (r ∷ rs) ess flaws (es, rest, own, more, x, xs, e, f) =
    ap heads_of e
    ∙ ap (λ (o : Option Entry). o ∷ heads_of rest) (next-from C r r.head es own x)
    ∙ ap (λ (os : List (Option Entry)). r.head ∷ os) (heads-agree C rs rest more xs)

-- ---- a record passes over its next entry

-- what was to come before
pub record WasToCome (C : Type 0) (rs : List NodeRecordView) (v : ℕ) (ess : List (List Entry)) (flaws : List Flaw) : Type 0 where
  pub before : List (List Entry)
  pub come : AreToCome C rs before flaws
  pub passed : without_next before v ≡ ess

one-passed : (before after : NodeRecordView) (e : Entry) (es : List Entry) → before.head ≡ Some e
    → drop 1 (listed before.head ++ es) ≡ es
one-passed before after e es h = subst (λ (o : Option Entry). drop 1 (listed o ++ es) ≡ es) (sym h) refl

pub was-to-come : (C : Type 0) (rs : List NodeRecordView) (v : ℕ) (before after : NodeRecordView) (e : Entry)
    → slice_get rs v ≡ Some before → before.head ≡ Some e → GoesOn C before after
    → (ess : List (List Entry)) (flaws : List Flaw) → AreToCome C (slice_set rs v after) ess flaws
    → WasToCome C rs v ess flaws
was-to-come C [] v before after e g h on ess flaws x = absurd (cc g)
was-to-come C (r ∷ rs) zero before after e g h on ess flaws (es, rest, own, more, x, xs, k, f) =
    let same : r ≡ before = cc g in
    record {
      before = (listed before.head ++ es) ∷ rest;
      come = (
        listed before.head ++ es,
        rest,
        own,
        more,
        subst (λ (b : NodeRecordView). IsToCome C b (listed before.head ++ es) own) (sym same) (on es own x),
        xs,
        refl,
        f,
      );
      passed = ap (λ (l : List Entry). l ∷ rest) (one-passed before after e es h) ∙ sym k;
    }
was-to-come C (r ∷ rs) (suc v) before after e g h on ess flaws (es, rest, own, more, x, xs, k, f) =
    let was = was-to-come C rs v before after e g h on rest more xs in
    record {
      before = es ∷ was.before;
      come = (es, was.before, own, more, x, was.come, refl, f);
      passed = ap (λ (l : List (List Entry)). es ∷ l) was.passed ∙ sym k;
    }

-- the record at a place has the head that is named
head-at : (rs : List NodeRecordView) (v : ℕ) (r : NodeRecordView) (e : Entry) → slice_get rs v ≡ Some r
    → head_of (heads_in rs) v ≡ Some e → r.head ≡ Some e
head-at [] v r e g h = absurd (cc g)
head-at (x ∷ rs) zero r e g h = let same : x ≡ r = cc g in subst (λ (b : NodeRecordView). b.head ≡ Some e) same h
head-at (x ∷ rs) (suc v) r e g h = head-at rs v r e g h

-- ---- one entry leads on

-- nothing is woven, and what follows is named differently
stays-at : (w x : World) (q r : List (List ℕ)) (es fs : List (List Entry)) → x ≡ w → r ≡ q → es ≡ fs
    → IsLed w q fs [] x r es
stays-at w x q r es fs p s t =
    subst (λ (y : World). IsLed w q fs [] y r es) (sym p)
    (subst (λ (y : List (List ℕ)). IsLed w q fs [] w y es) (sym s)
    (subst (λ (y : List (List Entry)). IsLed w q fs [] w q y) (sym t) Stays))

pub one-leads : (C : Type 0) (w : WeavingView) (v : ℕ) (e : Entry) (mid new : WeavingView) → IsTurn w (Some (v, e))
    → IsNoted w v e mid → HasPassed C mid v new → LeadsOn C w (moment_at (world_in w) w.gathering.queues v e ∷ []) new
one-leads C w v e mid new (turn, head, number) noted (before, after, g, on, same) entries flaws come =
    let world = world_in w in
    let queues = w.gathering.queues in
    let got : slice_get w.records v ≡ Some before = ap (λ (l : List NodeRecordView). slice_get l v) (sym noted.records) ∙ g in
    let come_here : AreToCome C (slice_set w.records v after) entries flaws =
    subst (λ (l : List NodeRecordView). AreToCome C (slice_set l v after) entries flaws) noted.records
    (subst (λ (x : WeavingView). AreToCome C x.records entries flaws) same come) in
    let was = was-to-come C w.records v before after e got (head-at w.records v before e got head) on entries flaws come_here in
    let heads : heads_in w.records ≡ heads_of was.before = sym (heads-agree C w.records was.before flaws was.come) in
    let there : IsLed (world_after world queues v e) (queues_after queues v e.noted) (without_next was.before v) []
    (world_in new) new.gathering.queues entries =
    stays-at (world_after world queues v e) (world_in new) (queues_after queues v e.noted) new.gathering.queues entries
    (without_next was.before v)
    (ap world_in same ∙ noted.world)
    (ap (λ (x : WeavingView). x.gathering.queues) same ∙ noted.queues)
    (sym was.passed) in (
      was.before,
      was.come,
      Leads (subst (λ (hs : List (Option Entry)). IsNext world hs world.net.nodes (Some v)) heads turn)
          (subst (λ (hs : List (Option Entry)). head_of hs v ≡ Some e) heads head) there,
    )

-- ---- many entries

pub events-append : (ms ns : List Moment) → events_of (ms ++ ns) ≡ events_of ms ++ events_of ns
events-append [] ns = refl
events-append (m ∷ ms) ns =
    ap (λ (es : List Event). m.events ++ es) (events-append ms ns) ∙ sym (append_assoc m.events (events_of ms) (events_of ns))

-- what is led on twice is led on
led-both : (w x y : World) (q r s : List (List ℕ)) (es fs gs : List (List Entry)) (ms ns : List Moment)
    → IsLed w q es ms x r fs → IsLed x r fs ns y s gs → IsLed w q es (ms ++ ns) y s gs
led-both w x y q r s es fs gs all ns Stays more = more
led-both w x y q r s es fs gs all ns (Leads {v = v} {e = e} {ms = ms} turn head rest) more =
    Leads turn head
    (led-both (world_after w q v e) x y (queues_after q v e.noted) r s (without_next es v) fs gs ms ns rest more)

-- and what is woven from there is woven from the start
pub led-woven : (w x : World) (q r : List (List ℕ)) (es fs : List (List Entry)) (ms later : List Moment)
    → IsLed w q es ms x r fs → IsWoven x r fs later → IsWoven w q es (ms ++ later)
led-woven w x q r es fs all later Stays woven = woven
led-woven w x q r es fs all later (Leads {v = v} {e = e} {ms = ms} turn head rest) woven =
    Next turn head (led-woven (world_after w q v e) x (queues_after q v e.noted) r (without_next es v) fs ms later rest woven)

pub none-leads : (C : Type 0) (w : WeavingView) → LeadsOn C w [] w
none-leads C w entries flaws come = (entries, come, Stays)

pub both-lead : (C : Type 0) (a b c : WeavingView) (ms ns : List Moment) → LeadsOn C a ms b → LeadsOn C b ns c
    → LeadsOn C a (ms ++ ns) c
both-lead C a b c ms ns x y entries flaws come =
    let (mid, mid_come, mid_led) = y entries flaws come in
    let (start, start_come, start_led) = x mid flaws mid_come in (
      start,
      start_come,
      led-both (world_in a) (world_in b) (world_in c) a.gathering.queues b.gathering.queues c.gathering.queues start mid entries ms ns
          start_led mid_led,
    )

module _ {K : Type 0} (C : Type 0) (takes : K → List Event → K → Type 0) (failures : K → ℕ)
    (takes_none : (s : K) → takes s [] s)
    (takes_both : (a b c : K) (xs ys : List Event) → takes a xs b → takes b ys c → takes a (xs ++ ys) c) where
  pub none-woven : (w : WeavingView) (s : K) → HasWoven C takes failures w s [] w s
  none-woven w s = record { leads = none-leads C w; taken = takes_none s; seen = refl; counted = omega arith }

  pub both-woven : (a b c : WeavingView) (s t u : K) (ms ns : List Moment) → HasWoven C takes failures a s ms b t
      → HasWoven C takes failures b t ns c u → HasWoven C takes failures a s (ms ++ ns) c u
  both-woven a b c s t u ms ns x y = record {
    leads = both-lead C a b c ms ns x.leads y.leads;
    taken = subst (λ (es : List Event). takes s es u) (sym (events-append ms ns))
        (takes_both s t u (events_of ms) (events_of ns) x.taken y.taken);
    seen = y.seen ∙ ap (λ (z : Seen). fold seen_after z ns) x.seen ∙ sym (fold-append seen_after a.seen ms ns);
    counted = omega (arith, x.counted, y.counted);
  }

  -- one more entry was woven
  pub woven-more : (a b c : WeavingView) (s t u : K) (ms : List Moment) (more : Bool) → more ≡ true
      → HasWoven C takes failures a s ms b t → IsOneWoven C takes failures b t (Ok more) c u
      → (ns : List Moment) × HasWoven C takes failures a s ns c u
  woven-more a b c s t u ms true e x (m, y) = (ms ++ m ∷ [], both-woven a b c s t u ms (m ∷ []) x y)
  woven-more a b c s t u ms false e x y = absurd (cc e)

  -- an entry became events, the sink took them, and the entry was passed over
  pub one-woven : (w mid new : WeavingView) (v : ℕ) (e : Entry) (events : List Event) (s t : K) → IsTurn w (Some (v, e))
      → IsNoted w v e mid → HasPassed C mid v new → events ≡ events_at (world_in w) w.gathering.queues v e
      → takes s events t → failures s ≤ failures t
      → HasWoven C takes failures w s (moment_at (world_in w) w.gathering.queues v e ∷ []) new t
  one-woven w mid new v e events s t turn noted passed same taken counted = record {
    leads = one-leads C w v e mid new turn noted passed;
    taken = subst (λ (es : List Event). takes s es t)
        (same ∙ sym (append-nil (events_at (world_in w) w.gathering.queues v e))) taken;
    seen = let (before, after, g, on, is) = passed in ap (λ (x : WeavingView). x.seen) is ∙ noted.seen;
    counted = counted;
  }

-- ---- none is left

pub ended-one : (C : Type 0) (r : NodeRecordView) → r.head ≡ None → IsToCome C r [] (listed r.earlier ++ listed r.flaw)
ended-one C r h =
    subst (λ (o : Option Entry). ComesFrom C r o [] (listed r.earlier ++ listed r.flaw)) (sym h) (refl, refl)

-- no entries of any record
abbrev no_entries : List NodeRecordView → List (List Entry)
no_entries [] = []
no_entries (r ∷ rs) = [] ∷ no_entries rs

below-more : (n u : ℕ) → u < n → suc u < suc n
below-more n u l = omega (arith, l)

ended : (C : Type 0) (rs : List NodeRecordView) → ((u : ℕ) → u < length rs → head_of (heads_in rs) u ≡ None)
    → AreToCome C rs (no_entries rs) (flaws_in rs)
ended C [] none = (refl, refl)
ended C (r ∷ rs) none = (
  [],
  no_entries rs,
  listed r.earlier ++ listed r.flaw,
  flaws_in rs,
  ended-one C r (none zero (omega arith)),
  ended C rs (λ u l. none (suc u) (below-more (length rs) u l)),
  refl,
  refl,
)

-- all of what was to come was woven
pub record WasAll (C : Type 0) (old : WeavingView) (ms : List Moment) (flaws : List Flaw) : Type 0 where
  pub before : List (List Entry)
  pub come : AreToCome C old.records before flaws
  pub woven : IsWoven (world_in old) old.gathering.queues before ms

pub was-all : (C : Type 0) (old new : WeavingView) (ms : List Moment) → LeadsOn C old ms new → IsTurn new None
    → WasAll C old ms (flaws_in new.records)
was-all C old new ms leads (none, number) =
    let rs = new.records in
    let come = ended C rs (λ u l. none u (subst (λ (n : ℕ). u < n) (sym number) l)) in
    let none_left : IsWoven (world_in new) new.gathering.queues (no_entries rs) [] =
    NoneLeft (subst (λ (hs : List (Option Entry)). IsNext (world_in new) hs (world_in new).net.nodes None)
    (sym (heads-agree C rs (no_entries rs) (flaws_in rs) come)) none) in
    let (before, before_come, led) = leads (no_entries rs) (flaws_in rs) come in
    let woven : IsWoven (world_in old) old.gathering.queues before (ms ++ []) =
    led-woven (world_in old) (world_in new) old.gathering.queues new.gathering.queues before (no_entries rs) ms [] led none_left in
    record {
      before = before;
      come = before_come;
      woven = subst (λ (l : List Moment). IsWoven (world_in old) old.gathering.queues before l) (append-nil ms) woven;
    }
