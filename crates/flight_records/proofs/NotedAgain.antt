-- What an entry notes is read again from its kind and its fields, and from no others.
use Rattle.std.proofs.Common.{◌≡◌, ap, refl, subst, arith, ℕ, suc, ◌+◌, ◌-◌, ◌%◌, ◌^◌, ◌<◌, ◌≤◌, ◌==◌, Bool, true, false, List, [], ◌∷◌, length, Option, Some, None, Result, Ok, Err, nat_lt, cond, inl, inr}
use Rattle.std.specs.Prelude.{IfSome}
use Rattle.std.specs.Str.{bytes_eq}
use Rattle.std.proofs.lemmas.Grind.{common_steps}
use Rattle.std.proofs.lemmas.Bool.{cases_lt, cases_Bool}
use Rattle.std.proofs.lemmas.Bool.Decides.{nat_tests}
use Rattle.std.proofs.lemmas.Slice.Eq.{bytes_eq-Decides}
use Rattle.leb128.specs.declared.unread.Unread.{Unread}
use Rattle.leb128.specs.declared.unread.Unread.TheVariants.{Invalid}
use Rattle.leb128.specs.Laws.{AreWide}
use Rattle.flight_records.specs.declared.entry.Entry.{Entry}
use Rattle.flight_records.specs.declared.entry.Noted.{Noted}
use Rattle.flight_records.specs.declared.entry.Noted.TheVariants as noted
use Rattle.flight_records.specs.declared.entry.StatePart.{StatePart}
use Rattle.flight_records.specs.declared.entry.StatePart.TheVariants.{Start, Own, Port, Waits, Loan, Whole}
use Rattle.flight_records.specs.declared.entry.Deed.{Deed}
use Rattle.flight_records.specs.declared.entry.Deed.TheVariants.{Ticks, Takes, TakesAgain, Sends, SendsAgain, Asks, Leaves, Joins, Parts, Connects, Disconnects}
use Rattle.flight_records.specs.Numbers.{optional, truth, kind, fields}
use Rattle.flight_records.specs.Spelling.{numbers}
use Rattle.flight_records.specs.Reading.{optional_of, candidate, with_fields, entry_with, entry_of, count_of, part_in, deed_in}
use Rattle.flight_records.specs.Laws.{IsNarrow, IsNoted, Follows}

narrow-same : (n : ℕ) → n < 65536 → n % 65536 ≡ n
narrow-same n small = omega arith

optional-same : (o : Option ℕ) → IfSome o IsNarrow → optional_of (optional o) ≡ o
optional-same None small = refl
optional-same (Some n) small =
    let some : ◌≡◌ {A = Bool} (n + 1 == 0) false = grind (arith, nat_tests) in
    let same : (n + 1 - 1) % 65536 ≡ n = omega arith in
    rw (some, same) refl

truth-same : (b : Bool) → ◌≡◌ {A = Bool} (truth b == 1) b
truth-same true = refl
truth-same false = refl

wide-same : (n : ℕ) → n < 2 ^ 32 → n % 4294967296 ≡ n
wide-same n small = omega arith

pub candidate-again : (n : Noted) → IsNoted n → candidate (kind n) (fields n) ≡ Some n
unfolding candidate
candidate-again (noted.State (Start network node)) h = rw (wide-same network h.0, narrow-same node h.1) refl
candidate-again (noted.State (Own distance parent)) h = rw (narrow-same distance h.0, optional-same parent h.1) refl
candidate-again (noted.State (Port neighbour seq last staged copy value)) h =
    rw (narrow-same neighbour h.0, narrow-same seq h.1, narrow-same last h.2, narrow-same staged.distance h.3.0, optional-same staged.parent h.3.1, narrow-same staged.ring h.3.2, narrow-same copy.distance h.4.0, optional-same copy.parent h.4.1, narrow-same copy.ring h.4.2, narrow-same value h.5) refl
candidate-again (noted.State (Waits ticket)) h = rw (narrow-same ticket h) refl
candidate-again (noted.State (Loan lent left served)) h = rw (optional-same lent h.0, narrow-same left h.1, truth-same served) refl
candidate-again (noted.State Whole) h = refl
candidate-again (noted.Deed Ticks) h = refl
candidate-again (noted.Deed (Takes from frame)) h =
    rw (narrow-same from h.0, narrow-same frame.seq h.1.0, narrow-same frame.ack h.1.1, narrow-same frame.payload.distance h.1.2.0, optional-same frame.payload.parent h.1.2.1, narrow-same frame.payload.ring h.1.2.2) refl
candidate-again (noted.Deed (TakesAgain from)) h = rw (narrow-same from h) refl
candidate-again (noted.Deed (Sends to frame)) h =
    rw (narrow-same to h.0, narrow-same frame.seq h.1.0, narrow-same frame.ack h.1.1, narrow-same frame.payload.distance h.1.2.0, optional-same frame.payload.parent h.1.2.1, narrow-same frame.payload.ring h.1.2.2) refl
candidate-again (noted.Deed (SendsAgain to)) h = rw (narrow-same to h) refl
candidate-again (noted.Deed (Asks ticket)) h = rw (narrow-same ticket h) refl
candidate-again (noted.Deed (Leaves ticket)) h = rw (narrow-same ticket h) refl
candidate-again (noted.Deed (Joins neighbour)) h = rw (narrow-same neighbour h) refl
candidate-again (noted.Deed (Parts neighbour)) h = rw (narrow-same neighbour h) refl
candidate-again (noted.Deed (Connects neighbour)) h = rw (narrow-same neighbour h) refl
candidate-again (noted.Deed (Disconnects neighbour)) h = rw (narrow-same neighbour h) refl

part-kind : (k : ℕ) (fs : List ℕ) (p : StatePart) → part_in k fs ≡ Some p → kind (noted.State p) ≡ k
part-kind k fs p e = grind (arith, nat_tests, common_steps)

deed-kind : (k : ℕ) (fs : List ℕ) (d : Deed) → deed_in k fs ≡ Some d → kind (noted.Deed d) ≡ k
deed-kind k fs d e = grind (arith, nat_tests, common_steps)

pub candidate-kind : (k : ℕ) (fs : List ℕ) (n : Noted) → candidate k fs ≡ Some n → kind n ≡ k
unfolding candidate
candidate-kind k fs (noted.State p) e = let same : part_in k fs ≡ Some p = grind (arith, common_steps) in part-kind k fs p same
candidate-kind k fs (noted.Deed d) e = let same : deed_in k fs ≡ Some d = grind (arith, common_steps) in deed-kind k fs d same

pub count-again : (n : Noted) → count_of (kind n) ≡ Ok (suc (length (fields n)))
unfolding count_of
count-again (noted.State (Start network node)) = refl
count-again (noted.State (Own distance parent)) = refl
count-again (noted.State (Port neighbour seq last staged copy value)) = refl
count-again (noted.State (Waits ticket)) = refl
count-again (noted.State (Loan lent left served)) = refl
count-again (noted.State Whole) = refl
count-again (noted.Deed Ticks) = refl
count-again (noted.Deed (Takes from frame)) = refl
count-again (noted.Deed (TakesAgain from)) = refl
count-again (noted.Deed (Sends to frame)) = refl
count-again (noted.Deed (SendsAgain to)) = refl
count-again (noted.Deed (Asks ticket)) = refl
count-again (noted.Deed (Leaves ticket)) = refl
count-again (noted.Deed (Joins neighbour)) = refl
count-again (noted.Deed (Parts neighbour)) = refl
count-again (noted.Deed (Connects neighbour)) = refl
count-again (noted.Deed (Disconnects neighbour)) = refl

kind-few : (n : Noted) → kind n < 18
kind-few n = grind (arith, common_steps)

optional-few : (o : Option ℕ) → IfSome o IsNarrow → optional o < 2 ^ 64
optional-few None small = omega arith
optional-few (Some n) small = omega arith

truth-few : (b : Bool) → truth b < 2 ^ 64
truth-few true = omega arith
truth-few false = omega arith

wide : (n : ℕ) → n < 65536 → n < 2 ^ 64
wide n small = omega arith

fields-wide : (n : Noted) → IsNoted n → AreWide (fields n)
fields-wide (noted.State (Start network node)) h = (omega (arith, h.0), (wide node h.1, tt))
fields-wide (noted.State (Own distance parent)) h = (wide distance h.0, (optional-few parent h.1, tt))
fields-wide (noted.State (Port neighbour seq last staged copy value)) h =
    (wide neighbour h.0, (wide seq h.1, (wide last h.2, (wide staged.distance h.3.0, (optional-few staged.parent h.3.1, (wide staged.ring h.3.2, (wide copy.distance h.4.0, (optional-few copy.parent h.4.1, (wide copy.ring h.4.2, (wide value h.5, tt))))))))))
fields-wide (noted.State (Waits ticket)) h = (wide ticket h, tt)
fields-wide (noted.State (Loan lent left served)) h = (optional-few lent h.0, (wide left h.1, (truth-few served, tt)))
fields-wide (noted.State Whole) h = tt
fields-wide (noted.Deed Ticks) h = tt
fields-wide (noted.Deed (Takes from frame)) h =
    (wide from h.0, (wide frame.seq h.1.0, (wide frame.ack h.1.1, (wide frame.payload.distance h.1.2.0, (optional-few frame.payload.parent h.1.2.1, (wide frame.payload.ring h.1.2.2, tt))))))
fields-wide (noted.Deed (TakesAgain from)) h = (wide from h, tt)
fields-wide (noted.Deed (Sends to frame)) h =
    (wide to h.0, (wide frame.seq h.1.0, (wide frame.ack h.1.1, (wide frame.payload.distance h.1.2.0, (optional-few frame.payload.parent h.1.2.1, (wide frame.payload.ring h.1.2.2, tt))))))
fields-wide (noted.Deed (SendsAgain to)) h = (wide to h, tt)
fields-wide (noted.Deed (Asks ticket)) h = (wide ticket h, tt)
fields-wide (noted.Deed (Leaves ticket)) h = (wide ticket h, tt)
fields-wide (noted.Deed (Joins neighbour)) h = (wide neighbour h, tt)
fields-wide (noted.Deed (Parts neighbour)) h = (wide neighbour h, tt)
fields-wide (noted.Deed (Connects neighbour)) h = (wide neighbour h, tt)
fields-wide (noted.Deed (Disconnects neighbour)) h = (wide neighbour h, tt)

pub numbers-wide : (last : ℕ) (e : Entry) → Follows last e → AreWide (numbers last e)
numbers-wide last e f = (omega (arith, kind-few e.noted), (omega (arith, f.wide), fields-wide e.noted f.noted))

-- the entry of an entry's numbers is that entry
pub entry_of-again : (last : ℕ) (e : Entry) → Follows last e → entry_of last (kind e.noted) ((e.instant - last) ∷ fields e.noted) ≡ Ok e
unfolding entry_of
entry_of-again last e f =
    let same : bytes_eq (fields e.noted) (fields e.noted) ≡ true = (bytes_eq-Decides (fields e.noted) (fields e.noted)).1 refl in
    let instant : last + (e.instant - last) ≡ e.instant = omega (arith, f.later) in
    let few : nat_lt e.instant (2 ^ 64) ≡ true = grind (arith, nat_tests, f.wide) in
    rw (candidate-again e.noted f.noted, same, instant, few) refl

-- and what is an entry of some numbers has these numbers
pub record HasNumbers (last k : ℕ) (ns : List ℕ) (e : Entry) : Type 0 where
  pub are : ns ≡ (e.instant - last) ∷ fields e.noted
  pub kind_is : kind e.noted ≡ k
  pub later : last ≤ e.instant
  pub wide : e.instant < 2 ^ 64

with_fields-takes : (fs : List ℕ) (o : Option Noted) (n : Noted) → with_fields fs o ≡ Some n → (o ≡ Some n) × (fields n ≡ fs)
with_fields-takes fs None n e = absurd cc
with_fields-takes fs (Some m) n e =
    elim (cases_Bool (bytes_eq (fields m) fs)) [
      | inl so ↦
          let e2 : ◌≡◌ {A = Option Noted} (Some m) (Some n) = subst (λ t. cond t (Some m) None ≡ Some n) so e in
          let same : m ≡ n = cc in
          (e2, subst (λ (x : Noted). fields x ≡ fs) same ((bytes_eq-Decides (fields m) fs).0 so))
      | inr not_so ↦
          let e2 : ◌≡◌ {A = Option Noted} None (Some n) = subst (λ t. cond t (Some m) None ≡ Some n) not_so e in
          absurd cc
    ]

entry_with-takes : (instant : ℕ) (o : Option Noted) (e : Entry) → entry_with instant o ≡ Ok e → (o ≡ Some e.noted) × (instant ≡ e.instant) × (instant < 2 ^ 64)
entry_with-takes instant None e h = absurd cc
entry_with-takes instant (Some n) e h =
    elim (cases_lt instant (2 ^ 64)) [
      | inl lt ↦
          let so : nat_lt instant (2 ^ 64) ≡ true = grind (arith, nat_tests) in
          let e2 : ◌≡◌ {A = Result Entry Unread} (Ok (record { instant = instant; noted = n })) (Ok e) =
          subst (λ t. ◌≡◌ {A = Result Entry Unread} (cond t (Ok (record { instant = instant; noted = n })) (Err Invalid)) (Ok e)) so h in
          let same : ◌≡◌ {A = Entry} (record { instant = instant; noted = n }) e = cc in
          (ap (λ (x : Entry). Some x.noted) same, ap (λ (x : Entry). x.instant) same, lt)
      | inr ge ↦
          let not_so : nat_lt instant (2 ^ 64) ≡ false = grind (arith, nat_tests) in
          let e2 : ◌≡◌ {A = Result Entry Unread} (Err Invalid) (Ok e) =
          subst (λ t. ◌≡◌ {A = Result Entry Unread} (cond t (Ok (record { instant = instant; noted = n })) (Err Invalid)) (Ok e)) not_so h in
          absurd cc
    ]

pub entry_of-takes : (last k : ℕ) (ns : List ℕ) (e : Entry) → entry_of last k ns ≡ Ok e → HasNumbers last k ns e
unfolding entry_of
entry_of-takes last k [] e h = absurd cc
entry_of-takes last k (passed ∷ fs) e h =
    let w = entry_with-takes (last + passed) (with_fields fs (candidate k fs)) e h in
    let f = with_fields-takes fs (candidate k fs) e.noted w.0 in
    let passed-is : e.instant - last ≡ passed = omega (arith, w.1) in
    record {
      are = rw (passed-is, f.1) refl;
      kind_is = candidate-kind k fs e.noted f.0;
      later = omega (arith, w.1);
      wide = omega (arith, w.1, w.2);
    }
