-- Runs that go on without damage.
use Rattle.std.proofs.Common.{◌≡◌, ℕ, ◌+◌, ◌*◌, ◌<◌, zero, suc, Bool, true, false, Option, Some, None, List, [], ◌∷◌, ◌++◌, length, Result, Ok, Err, OnOk, arith, refl, inl, inr}
use Rattle.std.specs.List.{flat_map, range_with_len}
use Rattle.rand_pcg.specs.Lcg.{Lcg}
use Rattle.std.specs.Prelude.{◌||◌}
use Rattle.topology.specs.Network.{Network, IsAcceptedNetwork}
use Rattle.byte_streams.specs.Streams.{CountsFailures, Rose}
use Rattle.run_model.specs.World.{World}
use Rattle.run_model.specs.Step.{step}
use Rattle.run_model.specs.Run.{is_damage, has_damage, run, IsUndamaged}
use Rattle.run_model.specs.declared.event.Event.{Event}
use Rattle.schedules.specs.damage_tool.Laws.{DrawsAreBelow}
use Rattle.schedules.specs.Laws.{RoundIsUndamaged, SlowRoundIsUndamaged}
use Rattle.schedules.specs.Random.{draw_step}
use Rattle.schedules.specs.Slow.{slow_link, slow_node}
use Rattle.experiments.specs.Scheduled.{plain, plain_steps, stretch_of, lent_at, leave_of, leave_at, leaves, stretches}
use Rattle.experiments.specs.declared.measured_run.Scheduler.{Scheduler}
use Rattle.experiments.specs.declared.measured_run.Scheduler.TheVariants.{Rounds, Random, SlowLink, SlowNode}
use Rattle.experiments.proofs.Replays.{step-harmless}
use Rattle.experiments.proofs.Steps.{drawn-step}

later-false : (p q : Bool) → (p || q) ≡ false → q ≡ false
later-false true q h = absurd (grind arith)
later-false false q h = h

first-false : (p q r : Bool) → (p || q) ≡ false → r ≡ false → (p || r) ≡ false
first-false true q r h k = absurd (grind arith)
first-false false q r h k = k

pub undamaged-append : (w : World) (xs ys : List Event) → IsUndamaged w xs → ((v : World) → IsUndamaged v ys) → IsUndamaged w (xs ++ ys)
undamaged-append w [] ys a b = b w
undamaged-append w (x ∷ xs) ys a b =
    first-false (is_damage w x) (has_damage (step w x) xs) (has_damage (step w x) (xs ++ ys)) a
    (undamaged-append (step w x) xs ys (later-false (is_damage w x) (has_damage (step w x) xs) a) b)

-- steps that are drawn are without damage
steps-undamaged : DrawsAreBelow → (net : Network) → IsAcceptedNetwork net → 0 < length net.edges → (n : ℕ) (g : Lcg) (w : World) → IsUndamaged w (plain_steps net n g).0
steps-undamaged draw_below net ok some zero g w = refl
steps-undamaged draw_below net ok some (suc n) g w =
    let before = plain_steps net n g in
    undamaged-append w before.0 ((draw_step net plain before.1).0 ∷ []) (steps-undamaged draw_below net ok some n g w)
    (λ v. step-harmless v (draw_step net plain before.1).0 (drawn-step draw_below net ok some plain before.1).0)

stretch-undamaged : DrawsAreBelow → RoundIsUndamaged → SlowRoundIsUndamaged → (net : Network) → IsAcceptedNetwork net → 0 < length net.edges → (scheduler : Scheduler)
    (n : ℕ) (g : Lcg) (w : World) → IsUndamaged w (stretch_of scheduler net n g).0
stretch-undamaged draw_below by_rounds by_slow net ok some Rounds n g w = by_rounds net w
stretch-undamaged draw_below by_rounds by_slow net ok some Random n g w = steps-undamaged draw_below net ok some (net.nodes + 4 * length net.edges) g w
stretch-undamaged draw_below by_rounds by_slow net ok some (SlowLink share) n g w = by_slow net (slow_link net g) share n w
stretch-undamaged draw_below by_rounds by_slow net ok some (SlowNode share) n g w = by_slow net (slow_node net g) share n w

-- nor is what is given back
leave-undamaged : (v : ℕ) (lent : Option ℕ) (w : World) → IsUndamaged w (leave_of v lent)
leave-undamaged v None w = refl
leave-undamaged v (Some t) w = refl

pub leaves-undamaged : (now : World) (ids : List ℕ) (w : World) → IsUndamaged w (flat_map (leave_at now) ids)
leaves-undamaged now [] w = refl
leaves-undamaged now (v ∷ ids) w =
    undamaged-append w (leave_at now v) (flat_map (leave_at now) ids) (leave-undamaged v (lent_at now v) w) (leaves-undamaged now ids)

-- so the stretches of a measured run are without damage, in whatever world they happen
pub stretches-undamaged : DrawsAreBelow → RoundIsUndamaged → SlowRoundIsUndamaged → (net : Network) → IsAcceptedNetwork net → 0 < length net.edges → (scheduler : Scheduler) (start : World) (g : Lcg)
    (n : ℕ) (w : World) → IsUndamaged w (stretches scheduler net start g n).0
stretches-undamaged draw_below by_rounds by_slow net ok some scheduler start g zero w = refl
stretches-undamaged draw_below by_rounds by_slow net ok some scheduler start g (suc n) w =
    let before = stretches scheduler net start g n in
    let stretch = stretch_of scheduler net n before.1 in
    let now = run start (before.0 ++ stretch.0) in
    undamaged-append w (before.0 ++ stretch.0) (leaves now)
    (undamaged-append w before.0 stretch.0 (stretches-undamaged draw_below by_rounds by_slow net ok some scheduler start g n w)
    (stretch-undamaged draw_below by_rounds by_slow net ok some scheduler n before.1))
    (leaves-undamaged now (range_with_len 0 now.net.nodes))

never : Rose 0 0 → ⊥
never rose = elim rose [ inl h ↦ omega (arith, h) | inr h ↦ omega (arith, h) ]

-- what never fails takes all
pub never-fails : {T E P : Type 0} (r : Result T E) → CountsFailures r 0 0 → OnOk r P → P
never-fails (Ok x) count done = done
never-fails (Err e) count done = absurd (never count.1)
