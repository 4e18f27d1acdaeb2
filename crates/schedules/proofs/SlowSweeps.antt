-- Rounds with a slow one hold a sweep for each round in which it has its part.
use Rattle.std.proofs.Common.{◌≡◌, ◌∙◌, ap, sym, subst, ℕ, ◌+◌, ◌*◌, ◌/◌, ◌≤◌, Bool, true, false, zero, suc, List, [], ◌∷◌, ◌++◌, append_assoc, refl, arith}
use Rattle.std.proofs.lemmas.Bool.Decides.{nat_tests}
use Rattle.std.proofs.lemmas.List.{append-nil}
use Rattle.std.specs.Prelude.{if◌then◌else◌, nat_lt, not}
use Rattle.topology.specs.Network.{Network}
use Rattle.configuration.specs.run_model.World.{World, IsWorldInRange}
use Rattle.configuration.specs.run_model.Step.{step}
use Rattle.configuration.specs.run_model.Run.{run, IsUndamaged}
use Rattle.configuration.specs.run_model.Sweep.{IsSweep, Sweeps}
use Rattle.configuration.specs.run_model.declared.event.Event.{Event}
use Rattle.schedules.specs.Laws.{IsIdle}
use Rattle.schedules.specs.Rounds.{round}
use Rattle.schedules.specs.Slow.{has_part, is_part, others, parts, slow_round, slow_rounds}
use Rattle.schedules.specs.declared.slow.Slow.{Slow}
use Rattle.schedules.proofs.Plain.{IsPlain, ArePlain, plain-append, plain-net, plain-undamaged, plain-round}
use Rattle.schedules.specs.Below.{Below}
use Rattle.schedules.proofs.Rounds.{IsIdleOn, idle-full, round-sweeps, run-idle}

-- ---- the events are ticks, sends and takes

kept : (net : Network) (b : Bool) (e : Event) (es : List Event) → IsPlain net e → ArePlain net es → ArePlain net (if b then e ∷ es else es)
kept net true e es one rest = (one, rest)
kept net false e es one rest = rest

plain-others : (net : Network) (slow : Slow) (es : List Event) → ArePlain net es → ArePlain net (others slow es)
plain-others net slow [] all = tt
plain-others net slow (e ∷ es) (one, rest) = kept net (not (is_part slow e)) e (others slow es) one (plain-others net slow es rest)

plain-either : (net : Network) (b : Bool) (xs ys : List Event) → ArePlain net xs → ArePlain net ys → ArePlain net (if b then xs else ys)
plain-either net true xs ys one two = one
plain-either net false xs ys one two = two

pub plain-slow : (net : Network) (slow : Slow) (share i : ℕ) → ArePlain net (slow_round net slow share i)
plain-slow net slow share i =
    plain-either net (has_part share i) (round net) (others slow (round net)) (plain-round net) (plain-others net slow (round net) (plain-round net))

plain-slows : (net : Network) (slow : Slow) (share i n : ℕ) → ArePlain net (slow_rounds net slow share i n)
plain-slows net slow share i zero = tt
plain-slows net slow share i (suc n) =
    plain-append net (slow_round net slow share i) (slow_rounds net slow share (i + 1) n) (plain-slow net slow share i) (plain-slows net slow share (i + 1) n)

plain-front : (net : Network) (xs ys : List Event) → ArePlain net (xs ++ ys) → ArePlain net xs
plain-front net [] ys all = tt
plain-front net (x ∷ xs) ys (one, rest) = (one, plain-front net xs ys rest)

run-append : (w : World) (xs ys : List Event) → run w (xs ++ ys) ≡ run (run w xs) ys
run-append w [] ys = refl
run-append w (x ∷ xs) ys = run-append (step w x) xs ys

-- ---- in how many rounds it has its part

-- among the n rounds from round i on
abbrev held : (share i n : ℕ) → ℕ
held share i zero = 0
held share i (suc n) = if has_part share i then suc (held share (i + 1) n) else held share (i + 1) n

more-or-not : (a s : ℕ) → s ≤ 100 → (a + s) / 100 ≡ (if nat_lt (a / 100) ((a + s) / 100) then suc (a / 100) else a / 100)
more-or-not a s below = grind (arith, nat_tests)

one-part : (share i : ℕ) → share ≤ 100 → parts share (i + 1) ≡ (if has_part share i then suc (parts share i) else parts share i)
one-part share i below =
    let product : (i + 1) * share ≡ i * share + share = omega arith in
    subst (λ a. a / 100 ≡ (if nat_lt (i * share / 100) (a / 100) then suc (i * share / 100) else i * share / 100)) (sym product)
    (more-or-not (i * share) share below)

counts-on : (b : Bool) (h p q t : ℕ) → q ≡ (if b then suc p else p) → h + q ≡ t → (if b then suc h else h) + p ≡ t
counts-on true h p q t next rest = omega (arith, next, rest)
counts-on false h p q t next rest = omega (arith, next, rest)

held-are : (share i n : ℕ) → share ≤ 100 → held share i n + parts share i ≡ parts share (i + n)
held-are share i zero below = omega arith
held-are share i (suc n) below =
    let same : i + 1 + n ≡ i + suc n = omega arith in
    counts-on (has_part share i) (held share (i + 1) n) (parts share i) (parts share (i + 1)) (parts share (i + suc n)) (one-part share i below)
    (held-are share (i + 1) n below ∙ ap (parts share) same)

all-held : (share n : ℕ) → share ≤ 100 → held share 0 n ≡ parts share n
all-held share n below =
    let same : 0 + n ≡ n = omega arith in
    let none : parts share 0 ≡ 0 = omega arith in
    let sum = held-are share 0 n below ∙ ap (parts share) same in
    omega (arith, sum, none)

-- ---- sweeps

module _ (known : Below) (net : Network) where
  -- events in front of sweeps are part of the first of them
  sweeps-later : (w : World) (r : ℕ) (front back : List Event) → IsWorldInRange w → ArePlain net front → ArePlain net back
      → Sweeps (run w front) r back → Sweeps w r (front ++ back)
  sweeps-later w zero front back ok one two sweeps = tt
  sweeps-later w (suc r) front back ok one two (first, rest, split, sweep, more) =
      let both : ArePlain net (front ++ first) = plain-append net front first one (plain-front net first rest (subst (ArePlain net) split two)) in
      let ends = append-nil (front ++ first) in
      let harmless : IsUndamaged w (front ++ first ++ []) = subst (IsUndamaged w) (sym ends) (plain-undamaged net w (front ++ first) both) in
      let whole : IsSweep w (front ++ first) = subst (IsSweep w) ends (known.grows w front first [] ok harmless sweep) in (
        front ++ first,
        rest,
        ap (λ es. front ++ es) split ∙ sym (append_assoc front first rest),
        whole,
        subst (λ (x : World). Sweeps x r rest) (sym (run-append w front first)) more,
      )

  -- one more round, in which it has its part or not
  one-more : (w : World) (slow : Slow) (b : Bool) (r : ℕ) (back : List Event) → w.net ≡ net → IsWorldInRange w → IsIdleOn net w → ArePlain net back
      → Sweeps (run w (if b then round net else others slow (round net))) r back
      → Sweeps w (if b then suc r else r) ((if b then round net else others slow (round net)) ++ back)
  one-more w slow true r back same ok idle plain sweeps =
      let sweep : IsSweep w (round net) = subst (λ (x : Network). IsSweep w (round x)) same (round-sweeps known w ok (idle-full known net w same idle)) in
      (round net, back, refl, sweep, sweeps)
  one-more w slow false r back same ok idle plain sweeps =
      sweeps-later w r (others slow (round net)) back ok (plain-others net slow (round net) (plain-round net)) plain sweeps

  held-sweeps : (w : World) (slow : Slow) (share i n : ℕ) → w.net ≡ net → IsWorldInRange w → IsIdleOn net w
      → Sweeps w (held share i n) (slow_rounds net slow share i n)
  held-sweeps w slow share i zero same ok idle = tt
  held-sweeps w slow share i (suc n) same ok idle =
      let es = slow_round net slow share i in
      let plain = plain-slow net slow share i in
      one-more w slow (has_part share i) (held share (i + 1) n) (slow_rounds net slow share (i + 1) n) same ok idle (plain-slows net slow share (i + 1) n)
      (held-sweeps (run w es) slow share (i + 1) n (plain-net known.network net w es same plain) (known.ranges w es ok)
      (run-idle known net w es same plain idle))

pub slow-sweeps : Below → (w : World) (slow : Slow) (share n : ℕ) → share ≤ 100 → IsWorldInRange w → IsIdle w
    → Sweeps w (parts share n) (slow_rounds w.net slow share 0 n)
slow-sweeps known w slow share n below ok idle =
    subst (λ r. Sweeps w r (slow_rounds w.net slow share 0 n)) (all-held share n below)
    (held-sweeps known w.net w slow share 0 n refl ok idle)
