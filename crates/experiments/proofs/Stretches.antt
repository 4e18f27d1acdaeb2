-- A run that is watched goes on stretch after stretch.
use Rattle.std.proofs.Common.{◌≡◌, ◌≢◌, ◌∙◌, ap, sym, subst, ℕ, ◌+◌, ◌≤◌, zero, suc, Option, Some, None, List, [], ◌∷◌, ◌++◌, append_assoc, arith, refl}
use Rattle.std.specs.List.{flat_map, range_with_len}
use Rattle.std.proofs.lemmas.List.{append-nil}
use Rattle.std.proofs.lemmas.Grind.{common_steps}
use Rattle.std.proofs.lemmas.Bool.Decides.{nat_tests}
use Rattle.rand_pcg.specs.Lcg.{Lcg}
use Rattle.topology.specs.Network.{Network}
use Rattle.run_model.specs.World.{World}
use Rattle.run_model.specs.Step.{step}
use Rattle.run_model.specs.Run.{run}
use Rattle.run_model.specs.declared.event.Event.{Event}
use Rattle.run_model.specs.declared.event.Event.TheVariants.{Leave}
use Rattle.judge.specs.configuration.ConfigurationView.{world_of}
use Rattle.judge.specs.JudgeView.{JudgeView}
use Rattle.schedules.specs.Random.{draw_step}
use Rattle.experiments.specs.Recovery.{IsWatched}
use Rattle.schedules.specs.Slow.{slow_round}
use Rattle.schedules.specs.declared.slow.Slow.{Slow}
use Rattle.experiments.specs.Scheduled.{plain, plain_steps, stretch_of, lent_at, leave_of, leave_at, leaves, stretches}
use Rattle.experiments.specs.Watched.{GoesOn, GoesOnBy, goes-both}
use Rattle.experiments.specs.declared.watch.LastFailures.{LastFailures}
use Rattle.experiments.specs.declared.measured_run.Scheduler.{Scheduler}
use Rattle.experiments.proofs.Watching.{run-append}

-- what is said of the world first, and then of that to which it leads
pub by-both : (f g : World → List Event) (a b c : JudgeView) (p q r : LastFailures) → GoesOnBy f a p b q → GoesOnBy g b q c r
    → GoesOnBy (λ w. f w ++ g (run w (f w))) a p c r
by-both f g a b c p q r one two start before watched =
    let w : World = run start.world before in
    subst (λ es. IsWatched start es c r) (append_assoc before (f w) (g (run w (f w))))
    (subst (λ (v : World). IsWatched start ((before ++ f w) ++ g v) c r) (run-append start.world before (f w)) (two start (before ++ f w) (one start before watched)))

-- ---- steps

-- one step more
pub steps-more : (net : Network) (i : ℕ) (first now : Lcg) (drawn : Event × Lcg) (a b c : JudgeView) (p q r : LastFailures)
    → GoesOn a p (plain_steps net i first).0 b q → now ≡ (plain_steps net i first).1 → drawn ≡ draw_step net plain now → GoesOn b q (drawn.0 ∷ []) c r
    → GoesOn a p (plain_steps net (i + 1) first).0 c r × (drawn.1 ≡ (plain_steps net (i + 1) first).1)
steps-more net i first now drawn a b c p q r so_far is_now is_drawn one =
    let more : suc i ≡ i + 1 = omega arith in
    let next : drawn ≡ draw_step net plain (plain_steps net i first).1 = is_drawn ∙ ap (draw_step net plain) is_now in
    subst (λ k. GoesOn a p (plain_steps net k first).0 c r × (drawn.1 ≡ (plain_steps net k first).1)) more (
      subst (λ (d : Event × Lcg). GoesOn a p ((plain_steps net i first).0 ++ d.0 ∷ []) c r) next
          (goes-both a b c p q r (plain_steps net i first).0 (drawn.0 ∷ []) so_far one),
      ap (λ (d : Event × Lcg). d.1) next,
    )

-- ---- what is given back

-- whoever gives the lock back at a node changes no other
leave-elsewhere : (w : World) (u t v : ℕ) → u ≢ v → lent_at (step w (Leave u t)) v ≡ lent_at w v
leave-elsewhere w u t v apart = grind (arith, common_steps, nat_tests)

lent-stays : (w : World) (u v : ℕ) (lent : Option ℕ) → u ≢ v → lent_at (run w (leave_of u lent)) v ≡ lent_at w v
lent-stays w u v None apart = refl
lent-stays w u v (Some t) apart = leave-elsewhere w u t v apart

lents-stay : (now w : World) (a n v : ℕ) → a + n ≤ v → lent_at (run w (flat_map (leave_at now) (range_with_len a n))) v ≡ lent_at w v
lents-stay now w a zero v below = refl
lents-stay now w a (suc n) v below =
    let first = leave_at now a in
    let rest = flat_map (leave_at now) (range_with_len (a + 1) n) in
    ap (λ (x : World). lent_at x v) (run-append w first rest)
    ∙ lents-stay now (run w first) (a + 1) n v (omega (arith, below))
    ∙ lent-stays w a v (lent_at now a) (λ same. omega (arith, below, same))

-- the leaves of one node more
leaves-last : (f : ℕ → List Event) (a n : ℕ) → flat_map f (range_with_len a (suc n)) ≡ flat_map f (range_with_len a n) ++ f (a + n)
leaves-last f a zero = let same : a + 0 ≡ a = omega arith in rw (same, append-nil) refl
leaves-last f a (suc n) =
    let same : a + 1 + n ≡ a + suc n = omega arith in
    ap (λ es. f a ++ es) (rw same at (leaves-last f (a + 1) n)) ∙ sym (append_assoc (f a) (flat_map f (range_with_len (a + 1) n)) (f (a + suc n)))

abbrev pub leaves_below : ℕ → World → List Event
leaves_below n w = flat_map (leave_at w) (range_with_len 0 n)

leaves-more : (w : World) (n : ℕ) → leaves_below n w ++ leave_at (run w (leaves_below n w)) n ≡ leaves_below (n + 1) w
leaves-more w n =
    let zero_more : 0 + n ≡ n = omega arith in
    let one_more : suc n ≡ n + 1 = omega arith in
    let stays : lent_at (run w (leaves_below n w)) n ≡ lent_at w n = lents-stay w w 0 n n (omega arith) in
    ap (λ lent. leaves_below n w ++ leave_of n lent) stays
    ∙ sym (rw zero_more at (leaves-last (leave_at w) 0 n))
    ∙ ap (λ k. leaves_below k w) one_more

pub by-leaves : (n : ℕ) (a b c : JudgeView) (p q r : LastFailures) → GoesOnBy (leaves_below n) a p b q → GoesOnBy (λ w. leave_at w n) b q c r
    → GoesOnBy (leaves_below (n + 1)) a p c r
by-leaves n a b c p q r so_far one start before watched =
    let w : World = run start.world before in
    subst (λ es. IsWatched start (before ++ es) c r) (leaves-more w n) (by-both (leaves_below n) (λ v. leave_at v n) a b c p q r so_far one start before watched)

-- at all nodes of the world that the watch has come to
pub by-all_leaves : (n : ℕ) (a c : JudgeView) (p r : LastFailures) → n ≡ (world_of a.configuration).net.nodes → GoesOnBy (leaves_below n) a p c r → GoesOnBy leaves a p c r
by-all_leaves n a c p r all on start before watched =
    let w : World = run start.world before in
    let same : n ≡ w.net.nodes = all ∙ ap (λ (x : World). x.net.nodes) watched.seen.judging.now_is in
    subst (λ k. IsWatched start (before ++ leaves_below k w) c r) same (on start before watched)

-- a leave if the watch's world lends
pub by-leave : (v : ℕ) (lent : Option ℕ) (a c : JudgeView) (p r : LastFailures) → lent ≡ lent_at (world_of a.configuration) v → GoesOn a p (leave_of v lent) c r
    → GoesOnBy (λ w. leave_at w v) a p c r
by-leave v lent a c p r is on start before watched =
    let same : lent ≡ lent_at (run start.world before) v = is ∙ ap (λ (x : World). lent_at x v) watched.seen.judging.now_is in
    subst (λ l. IsWatched start (before ++ leave_of v l) c r) same (on start before watched)

-- ---- stretches

-- equal schedulers have equal stretches
pub by-scheduler : (s t : Scheduler) (net : Network) (n : ℕ) (g : Lcg) (a b : JudgeView) (p q : LastFailures) → s ≡ t
    → GoesOn a p (stretch_of t net n g).0 b q → GoesOn a p (stretch_of s net n g).0 b q
by-scheduler s t net n g a b p q is goes = subst (λ x. GoesOn a p (stretch_of x net n g).0 b q) (sym is) goes

-- and equal slow ones equal rounds
pub by-slow_round : (drawn slow : Slow) (net : Network) (share n : ℕ) (a b : JudgeView) (p q : LastFailures) → drawn ≡ slow
    → GoesOn a p (slow_round net drawn share n) b q → GoesOn a p (slow_round net slow share n) b q
by-slow_round drawn slow net share n a b p q is goes = subst (λ x. GoesOn a p (slow_round net x share n) b q) is goes

pub by-stretch : (scheduler : Scheduler) (net : Network) (first now next : Lcg) (n : ℕ) (a b c d : JudgeView) (p q r s : LastFailures)
    → GoesOnBy (λ w. (stretches scheduler net w first n).0) a p b q → ((w : World) → now ≡ (stretches scheduler net w first n).1)
    → GoesOn b q (stretch_of scheduler net n now).0 c r → next ≡ (stretch_of scheduler net n now).1 → GoesOnBy leaves c r d s
    → GoesOnBy (λ w. (stretches scheduler net w first (n + 1)).0) a p d s × ((w : World) → next ≡ (stretches scheduler net w first (n + 1)).1)
by-stretch scheduler net first now next n a b c d p q r s so_far is_now stretch is_next back =
    let more : suc n ≡ n + 1 = omega arith in
    let done : World → List Event = λ w. (stretches scheduler net w first n).0 in
    let both : GoesOnBy (λ w. done w ++ (stretch_of scheduler net n now).0) a p c r =
    by-both done (λ w. (stretch_of scheduler net n now).0) a b c p q r so_far (λ start before watched. stretch start before watched) in
    let all = by-both (λ w. done w ++ (stretch_of scheduler net n now).0) leaves a c d p r s both back in
    subst (λ k. GoesOnBy (λ w. (stretches scheduler net w first k).0) a p d s × ((w : World) → next ≡ (stretches scheduler net w first k).1)) more (
      λ start before watched.
          let w : World = run start.world before in
          subst (λ (g : Lcg).
          IsWatched start (before ++ ((done w ++ (stretch_of scheduler net n g).0) ++ leaves (run w (done w ++ (stretch_of scheduler net n g).0)))) d s) (is_now w)
          (all start before watched),
      λ w. is_next ∙ ap (λ (g : Lcg). (stretch_of scheduler net n g).1) (is_now w),
    )
