-- What is given back is accepted, and is no damage; and the lists of such a schedule, each as its next part and what is left.
use Rattle.std.proofs.Common.{◌≡◌, ◌∙◌, ap, sym, subst, ℕ, ◌+◌, ◌-◌, ◌<◌, zero, suc, Bool, true, false, Option, Some, None, List, [], ◌∷◌, ◌++◌, length, Result, Ok, Err, OnOk, slice_index_or, slice_set, arith, refl}
use Rattle.std.specs.Prelude.{◌==◌, nat_lt, if◌then◌else◌}
use Rattle.std.specs.List.{range_with_len}
use Rattle.std.proofs.lemmas.List.{append-nil}
use Rattle.std.proofs.lemmas.Grind.{common_steps}
use Rattle.std.proofs.lemmas.Bool.Decides.{nat_tests}
use Rattle.rand_pcg.specs.Lcg.{Lcg}
use Rattle.topology.specs.Network.{Network, IsAcceptedNetwork}
use Rattle.run_model.specs.World.{World}
use Rattle.run_model.specs.Step.{refusal, step}
use Rattle.run_model.specs.Run.{run, IsUndamaged}
use Rattle.run_model.specs.Laws.{NetworkStays}
use Rattle.run_model.specs.declared.event.Event.{Event}
use Rattle.run_model.specs.declared.event.Event.TheVariants.{Send, Take, Lose, Tick, Ask, Leave, Damage}
use Rattle.schedules.specs.damage_tool.Laws.{AreAccepted, DrawsAreBelow}
use Rattle.schedules.specs.Laws.{RoundIsUndamaged, RoundsAreAccepted}
use Rattle.schedules.specs.Rounds.{round, rounds}
use Rattle.schedules.specs.Random.{draw_step, admitted}
use Rattle.schedules.specs.declared.random.Chances.{Chances}
use Rattle.judge.specs.configuration.ConfigurationView.{world_of}
use Rattle.experiments.specs.declared.giving_back.Lending.{Lending}
use Rattle.experiments.specs.GivenBack.{WentBack, due, back_at, back_at_all, back_after, round_back, rounds_back, step_back, random_back}
use Rattle.experiments.specs.Scheduled.{leave_of}
use Rattle.experiments.proofs.Harmless.{undamaged-append}
use Rattle.experiments.proofs.Steps.{IsStepOf, admitted-accepted, admitted-step, drawn-step, net-stays}
use Rattle.experiments.proofs.Watching.{run-append}

pub accepted-append : (w : World) (xs ys : List Event) → AreAccepted w xs → AreAccepted (run w xs) ys → AreAccepted w (xs ++ ys)
accepted-append w [] ys a b = b
accepted-append w (x ∷ xs) ys a b = (a.0, accepted-append (step w x) xs ys a.1 b)

-- ---- what is given back

leave-accepted : (w : World) (v t : ℕ) → v < w.net.nodes → (w.node v).desk.lent ≡ Some t → refusal w (Leave v t) ≡ None
leave-accepted w v t below lent = grind (arith, common_steps, nat_tests)

either-accepted : (w : World) (v t : ℕ) (b : Bool) (xs ys : List ℕ) → refusal w (Leave v t) ≡ None
    → (let d : Option ℕ × List ℕ = if b then (Some t, xs) else (None, ys) in AreAccepted w (leave_of v d.0))
either-accepted w v t true xs ys ok = (ok, tt)
either-accepted w v t false xs ys ok = tt

due-accepted : (w : World) (more v : ℕ) (lent : Option ℕ) (left : List ℕ) → v < w.net.nodes → (w.node v).desk.lent ≡ lent
    → AreAccepted w (leave_of v (due more v lent left).0)
due-accepted w more v None left below same = tt
due-accepted w more v (Some t) left below same =
    either-accepted w v t (slice_index_or left v 0 == 0) (slice_set left v more) (slice_set left v (slice_index_or left v 0 - 1))
    (leave-accepted w v t below same)

if-there : (P : List Event → Type 0) (v n : ℕ) (one other : List Event × List ℕ) → (v < n → P one.0) → P other.0
    → P (if nat_lt v n then one else other).0
if-there P v n one other there elsewhere = go (nat_lt v n) (λ h. there (below h))
  where
    below : nat_lt v n ≡ true → v < n
    below h = grind (arith, nat_tests)

    go : (b : Bool) → (b ≡ true → P one.0) → P (if b then one else other).0
    go true h = h refl
    go false h = elsewhere

at-accepted : (more : ℕ) (w : World) (left : List ℕ) (v : ℕ) → AreAccepted w (back_at more w left v).0
at-accepted more w left v =
    let d = due more v (w.node v).desk.lent left in
    if-there (AreAccepted w) v w.net.nodes (leave_of v d.0, d.1) ([], left)
    (λ below. due-accepted w more v (w.node v).desk.lent left below refl) tt

all-accepted : (more : ℕ) (w : World) (left : List ℕ) (vs : List ℕ) → AreAccepted w (back_at_all more w left vs).0
all-accepted more w left [] = tt
all-accepted more w left (v ∷ vs) =
    let one = back_at more w left v in
    accepted-append w one.0 (back_at_all more (run w one.0) one.1 vs).0 (at-accepted more w left v)
    (all-accepted more (run w one.0) one.1 vs)

after-accepted : (more : ℕ) (w : World) (left : List ℕ) (e : Event) → AreAccepted w (back_after more w left e).0
after-accepted more w left (Tick v) = at-accepted more w left v
after-accepted more w left (Send u v) = tt
after-accepted more w left (Take u v) = tt
after-accepted more w left (Lose u v i) = tt
after-accepted more w left (Ask v t) = tt
after-accepted more w left (Leave v t) = tt
after-accepted more w left (Damage h) = tt

leave-undamaged : (v : ℕ) (lent : Option ℕ) (w : World) → IsUndamaged w (leave_of v lent)
leave-undamaged v None w = refl
leave-undamaged v (Some t) w = refl

at-undamaged : (more : ℕ) (now : World) (left : List ℕ) (v : ℕ) (w : World) → IsUndamaged w (back_at more now left v).0
at-undamaged more now left v w =
    let d = due more v (now.node v).desk.lent left in
    if-there (IsUndamaged w) v now.net.nodes (leave_of v d.0, d.1) ([], left) (λ below. leave-undamaged v d.0 w) refl

all-undamaged : (more : ℕ) (now : World) (left vs : List ℕ) (w : World) → IsUndamaged w (back_at_all more now left vs).0
all-undamaged more now left [] w = refl
all-undamaged more now left (v ∷ vs) w =
    let one = back_at more now left v in
    undamaged-append w one.0 (back_at_all more (run now one.0) one.1 vs).0 (at-undamaged more now left v w)
    (all-undamaged more (run now one.0) one.1 vs)

after-undamaged : (more : ℕ) (now : World) (left : List ℕ) (e : Event) (w : World) → IsUndamaged w (back_after more now left e).0
after-undamaged more now left (Tick v) w = at-undamaged more now left v w
after-undamaged more now left (Send u v) w = refl
after-undamaged more now left (Take u v) w = refl
after-undamaged more now left (Lose u v i) w = refl
after-undamaged more now left (Ask v t) w = refl
after-undamaged more now left (Leave v t) w = refl
after-undamaged more now left (Damage h) w = refl

-- ---- whole schedules

module _ (network : NetworkStays) (net : Network) where
  module _ (by_rounds : RoundsAreAccepted) (harmless : RoundIsUndamaged) where
    one-round : (w : World) → w.net ≡ net → AreAccepted w (round net)
    one-round w same = subst (AreAccepted w) (append-nil (round net)) (subst (λ (x : Network). AreAccepted w (rounds x 1)) same (by_rounds w 1))

    round-accepted : (more : ℕ) (w : World) (left : List ℕ) → w.net ≡ net → AreAccepted w (round_back net more w left).0
    round-accepted more w left same =
        accepted-append w (round net) (back_at_all more (run w (round net)) left (range_with_len 0 net.nodes)).0 (one-round w same)
        (all-accepted more (run w (round net)) left (range_with_len 0 net.nodes))

    round-net : (more : ℕ) (w : World) (left : List ℕ) → w.net ≡ net → (run w (round_back net more w left).0).net ≡ net
    round-net more w left same =
        network w (round_back net more w left).0
        (undamaged-append w (round net) (back_at_all more (run w (round net)) left (range_with_len 0 net.nodes)).0 (harmless net w)
        (all-undamaged more (run w (round net)) left (range_with_len 0 net.nodes)))
        ∙ same

    pub rounds-accepted : (more : ℕ) (w : World) (left : List ℕ) (n : ℕ) → w.net ≡ net → AreAccepted w (rounds_back net more w left n)
    rounds-accepted more w left zero same = tt
    rounds-accepted more w left (suc n) same =
        let first = round_back net more w left in
        accepted-append w first.0 (rounds_back net more (run w first.0) first.1 n) (round-accepted more w left same)
        (rounds-accepted more (run w first.0) first.1 n (round-net more w left same))

  module _ (draw_below : DrawsAreBelow) (ok : IsAcceptedNetwork net) (some : 0 < length net.edges) where
    pub steps-accepted : (more : ℕ) (c : Chances) (n : ℕ) (w : World) (left : List ℕ) (g : Lcg) → w.net ≡ net
        → AreAccepted w (random_back more w left c n g)
    steps-accepted more c zero w left g same = tt
    steps-accepted more c (suc n) w left g same =
        let drawn = draw_step w.net c g in
        let s : IsStepOf w.net drawn.0 = subst (λ (x : Network). IsStepOf x (draw_step x c g).0) (sym same) (drawn-step draw_below net ok some c g) in
        let next = admitted w drawn.0 in
        let back = back_after more (step w next) left next in
        let first = step_back more w left next in
        accepted-append w first.0 (random_back more (run w first.0) first.1 c n drawn.1)
        (admitted-accepted w drawn.0 s, after-accepted more (step w next) left next)
        (steps-accepted more c n (run w first.0) first.1 drawn.1
        (network (step w next) back.0 (after-undamaged more (step w next) left next (step w next)) ∙ net-stays network w next (admitted-step w drawn.0 s) ∙ same))

-- ---- parts

-- what is left of n, the next being i, is one more than what is left after it
one-more : (i n : ℕ) → i < n → n - i ≡ suc (n - (i + 1))
one-more i n h = omega arith

pub rounds-split : (net : Network) (more : ℕ) (w : World) (left : List ℕ) (i n more1 : ℕ) (w1 : World) (left1 : List ℕ) → i < n
    → w1 ≡ run w (round_back net more w left).0 → left1 ≡ (round_back net more w left).1 → more1 ≡ more
    → rounds_back net more w left (n - i) ≡ (round_back net more w left).0 ++ rounds_back net more1 w1 left1 (n - (i + 1))
rounds-split net more w left i n more1 w1 left1 h is_w is_left is_more =
    let first = round_back net more w left in
    ap (rounds_back net more w left) (one-more i n h)
    ∙ ap (λ (x : World). first.0 ++ rounds_back net more x first.1 (n - (i + 1))) (sym is_w)
    ∙ ap (λ (l : List ℕ). first.0 ++ rounds_back net more w1 l (n - (i + 1))) (sym is_left)
    ∙ ap (λ m. first.0 ++ rounds_back net m w1 left1 (n - (i + 1))) (sym is_more)

pub steps-split : (more : ℕ) (w : World) (left : List ℕ) (c : Chances) (g : Lcg) (i n more1 : ℕ) (w1 : World) (left1 : List ℕ) (g1 : Lcg) → i < n
    → w1 ≡ run w (step_back more w left (admitted w (draw_step w.net c g).0)).0
    → left1 ≡ (step_back more w left (admitted w (draw_step w.net c g).0)).1 → more1 ≡ more → g1 ≡ (draw_step w.net c g).1
    → random_back more w left c (n - i) g
    ≡ (step_back more w left (admitted w (draw_step w.net c g).0)).0 ++ random_back more1 w1 left1 c (n - (i + 1)) g1
steps-split more w left c g i n more1 w1 left1 g1 h is_w is_left is_more is_g =
    let drawn = draw_step w.net c g in
    let first = step_back more w left (admitted w drawn.0) in
    ap (λ k. random_back more w left c k g) (one-more i n h)
    ∙ ap (λ (x : World). first.0 ++ random_back more x first.1 c (n - (i + 1)) drawn.1) (sym is_w)
    ∙ ap (λ (l : List ℕ). first.0 ++ random_back more w1 l c (n - (i + 1)) drawn.1) (sym is_left)
    ∙ ap (λ m. first.0 ++ random_back m w1 left1 c (n - (i + 1)) drawn.1) (sym is_more)
    ∙ ap (λ (x : Lcg). first.0 ++ random_back more1 w1 left1 c (n - (i + 1)) x) (sym is_g)

-- what is left to give back at the nodes from one on
abbrev pub backs_from : ℕ → World → List ℕ → ℕ → ℕ → List Event × List ℕ
backs_from more w left i n = back_at_all more w left (range_with_len i (n - i))

pub all-split : (more : ℕ) (w : World) (left : List ℕ) (i n more1 : ℕ) (w1 : World) (left1 : List ℕ) → i < n
    → w1 ≡ run w (back_at more w left i).0 → left1 ≡ (back_at more w left i).1 → more1 ≡ more
    → backs_from more w left i n
    ≡ ((back_at more w left i).0 ++ (backs_from more1 w1 left1 (i + 1) n).0, (backs_from more1 w1 left1 (i + 1) n).1)
all-split more w left i n more1 w1 left1 h is_w is_left is_more =
    let one = back_at more w left i in
    let rest = range_with_len (i + 1) (n - (i + 1)) in
    ap (λ k. back_at_all more w left (range_with_len i k)) (one-more i n h)
    ∙ ap (λ (x : World). (one.0 ++ (back_at_all more x one.1 rest).0, (back_at_all more x one.1 rest).1)) (sym is_w)
    ∙ ap (λ (l : List ℕ). (one.0 ++ (back_at_all more w1 l rest).0, (back_at_all more w1 l rest).1)) (sym is_left)
    ∙ ap (λ m. (one.0 ++ (back_at_all m w1 left1 rest).0, (back_at_all m w1 left1 rest).1)) (sym is_more)

-- what is given back at one node and then at those after it leads where all of it does
pub all-leads : (w w1 : World) (all one rest : List Event) → w1 ≡ run w one → all ≡ one ++ rest → run w all ≡ run w1 rest
all-leads w w1 all one rest is_w is_all = ap (run w) is_all ∙ run-append w one rest ∙ ap (λ (x : World). run x rest) (sym is_w)

-- the same of a round and what is given back after it
pub round-backs : (net : Network) (more : ℕ) (w : World) (left : List ℕ) (n more1 : ℕ) (w1 : World) (left1 : List ℕ)
    → n ≡ net.nodes → w1 ≡ run w (round net) → left1 ≡ left → more1 ≡ more
    → back_at_all more1 w1 left1 (range_with_len 0 n) ≡ back_at_all more (run w (round net)) left (range_with_len 0 net.nodes)
round-backs net more w left n more1 w1 left1 is_n is_w is_left is_more =
    ap (λ k. back_at_all more1 w1 left1 (range_with_len 0 k)) is_n
    ∙ ap (λ m. back_at_all m w1 left1 (range_with_len 0 net.nodes)) is_more
    ∙ ap (λ (x : World). back_at_all more x left1 (range_with_len 0 net.nodes)) is_w
    ∙ ap (λ (l : List ℕ). back_at_all more (run w (round net)) l (range_with_len 0 net.nodes)) is_left

pub round-went : {A : Type 0} (net : Network) (n : ℕ) (old mid new : Lending A) → n ≡ net.nodes → WentBack old (round net, old.left) mid
    → WentBack mid (back_at_all mid.more (world_of mid.configuration) mid.left (range_with_len 0 n)) new
    → WentBack old (round_back net old.more (world_of old.configuration) old.left) new
round-went net n old mid new is_n first back =
    let w = world_of old.configuration in
    let all = back_at_all old.more (run w (round net)) old.left (range_with_len 0 net.nodes) in
    let same = round-backs net old.more w old.left n mid.more (world_of mid.configuration) mid.left is_n first.world_is first.left_is first.more_is in
    record {
      world_is = back.world_is ∙ ap (λ (b : List Event × List ℕ). run (world_of mid.configuration) b.0) same
          ∙ ap (λ (x : World). run x all.0) first.world_is ∙ sym (run-append w (round net) all.0);
      left_is = back.left_is ∙ ap (λ (b : List Event × List ℕ). b.1) same;
      more_is = back.more_is ∙ first.more_is;
    }

-- what is given back after a tick that happened
pub after-tick : (more : ℕ) (w w1 : World) (left : List ℕ) (e next : Event) (v : ℕ) → e ≡ next → w1 ≡ step w e → e ≡ Tick v
    → (back_at more w1 left v).0 ≡ (back_after more (step w next) left next).0
after-tick more w w1 left e next v is_next is_w is_tick =
    ap (λ (x : World). (back_at more x left v).0) (is_w ∙ ap (step w) is_next)
    ∙ ap (λ (x : Event). (back_after more (step w next) left x).0) (sym is_tick ∙ is_next)

pub on-ok : {T E P Q : Type 0} (r : Result T E) → (P → Q) → OnOk r P → OnOk r Q
on-ok (Ok x) f h = f h
on-ok (Err e) f h = tt
