-- Rows: what an order says, what is scrambled, who gives the lock back, when a watched run goes on, and when it has been watched.
-- The words of the generators were worked out apart from this code, by the rules of O'Neill, "PCG", 2014, and of
-- `seed_from_u64` in `rand_core`.
use Rattle.std.proofs.Common.{◌≡◌, ◌≢◌, ◌≤◌, ℕ, true, false, zero, suc, [], ◌∷◌, ◌++◌, Option, Some, None, refl, ap, ◌∙◌, inl, arith}
use Rattle.std.specs.List.{range_with_len}
use Rattle.rand_core.specs.Pcg32Seed.{pcg32_seed}
use Rattle.rand_core.specs.Steps.{u32_at, word_bytes}
use Rattle.rand_pcg.specs.Lcg.{Lcg}
use Rattle.run_model.specs.World.{World}
use Rattle.run_model.specs.Start.{default_world}
use Rattle.run_model.specs.Run.{IsUndamaged, run}
use Rattle.run_model.specs.Headline.{IsServing}
use Rattle.run_model.specs.declared.event.Event.TheVariants.{Leave, Send, Take, Tick}
use Rattle.run_model.proofs.RowsTwo.{two_nodes, calm}
use Rattle.run_model.proofs.RowsServing.{calm-serves, two_tokens, two_tokens-do_not_serve}
use Rattle.schedules.specs.Rounds.{round}
use Rattle.schedules.specs.damage_tool.Draws.{draw}
use Rattle.judge.specs.JudgeView.{JudgeView, HasSeen}
use Rattle.experiments.specs.declared.measured_run.Scheduler.TheVariants as scheduler
use Rattle.experiments.specs.declared.plan.Order.TheVariants as order
use Rattle.experiments.specs.declared.watch.LastFailures.{LastFailures}
use Rattle.experiments.specs.Plan.{ordered}
use Rattle.experiments.specs.Recovery.{beginning, Beginning, HoldsAfterEach, IsWatched, counted_from}
use Rattle.experiments.specs.Runs.{IsRunWatched}
use Rattle.experiments.specs.Scheduled.{plain, plain_steps, lent_at, leave_of, leaves, stretches}
use Rattle.experiments.specs.Shown.{scrambled, seeded}
use Rattle.experiments.specs.Watched.{GoesOn, GoesOnBy}
use Rattle.experiments.proofs.Harmless.{leaves-undamaged, undamaged-append}
use Rattle.experiments.proofs.RowsMeasured.{lending, last_not-now, sharp-two, still}

abbrev start : World
start = default_world two_nodes

-- ---- orders

-- a round of two nodes begins with their ticks
orders-round : ordered two_nodes start (order.Rounds 1)
    ≡ Tick 0 ∷ Tick 1 ∷ Send 0 1 ∷ Take 0 1 ∷ Send 0 1 ∷ Take 0 1 ∷ Send 1 0 ∷ Take 1 0 ∷ Send 1 0 ∷ Take 1 0 ∷ []
orders-round = refl

-- the words 0 and 0 say a tick of node 0; 3837872008 is 1 modulo 3, a send, and 1548399547 is odd, so to node 0
orders-random : ordered two_nodes start (order.Random 2 plain still) ≡ Tick 0 ∷ Send 1 0 ∷ []
unfolding draw
orders-random = refl

orders_not-rounds : ordered two_nodes start (order.Random 1 plain still) ≢ ordered two_nodes start (order.Rounds 1)
unfolding draw
orders_not-rounds = grind arith

draws-none : (g : Lcg) → plain_steps two_nodes 0 g ≡ ([], g)
draws-none g = refl

-- the generator after a step is the one after its words
draws-two : (plain_steps two_nodes 2 still).0 ≡ Tick 0 ∷ Send 1 0 ∷ []
unfolding draw
draws-two = refl

-- ---- who gives the lock back

lends : lent_at lending 1 ≡ Some 7
lends = refl

lends_not-other : lent_at lending 0 ≡ None
lends_not-other = refl

-- nor does a node that is none
lends_not-nobody : lent_at lending 2 ≡ None
lends_not-nobody = refl

gives-back : leave_of 1 (Some 7) ≡ Leave 1 7 ∷ []
gives-back = refl

gives_not-nothing : leave_of 1 None ≡ []
gives_not-nothing = refl

-- ---- what is scrambled

-- the seed of the number 0 is 236, 242, 115, 249, 129, 181, 205, 69, 135, 240, 70, 115, 6, 173, 108, 173
seeds-zero : seeded 0 ≡ record { state = 18178507722946115774; increment = 12496553309261721735 }
unfolding u32_at pcg32_seed word_bytes
seeds-zero = refl

seeds-seven : seeded 7 ≡ record { state = 14886976994342444554; increment = 2172230297942992439 }
unfolding u32_at pcg32_seed word_bytes
seeds-seven = refl

seeds_not-same : seeded 7 ≢ seeded 0
unfolding u32_at pcg32_seed word_bytes
seeds_not-same = grind arith

-- the first words are the distance and the parent of node 0
scrambles-distance : ((scrambled two_nodes still).node 0).distance ≡ 0
unfolding draw
scrambles-distance = refl

scrambles_not-start : ((scrambled two_nodes still).node 0).distance ≢ (start.node 0).distance
unfolding draw
scrambles_not-start = grind arith

-- ---- watched runs

-- after an event that is refused all is as before
serves-after : HoldsAfterEach IsServing calm (Tick 2 ∷ [])
serves-after = (calm-serves, tt)

serves_not-after : ¬ HoldsAfterEach IsServing two_tokens (Tick 2 ∷ [])
serves_not-after serves = two_tokens-do_not_serve serves.0

-- a watch that does not look at the layers
abbrev last : Option ℕ → LastFailures
last serving = record { serving = serving; layers = None }

abbrev from : World → Beginning
from w = beginning w false

watches : (judge : JudgeView) → HasSeen judge calm [] → IsWatched (from calm) [] judge (last None)
watches judge seen = record { seen = seen; failed = (calm-serves, tt); layers = tt }

watches_not-serving : (judge : JudgeView) → ¬ IsWatched (from two_tokens) [] judge (last None)
watches_not-serving judge watched = two_tokens-do_not_serve watched.failed.0

watches_not-failing : (judge : JudgeView) → ¬ IsWatched (from calm) [] judge (last (Some 4))
watches_not-failing judge watched = last_not-now 4 watched.failed

-- nor is it one that looks at them
watches_not-layers : (judge : JudgeView) → ¬ IsWatched (beginning calm true) [] judge (last None)
watches_not-layers judge watched = watched.layers

-- what has served all the time is no run that has failed
goes_not-back : (judge : JudgeView) → HasSeen judge calm [] → ¬ GoesOn judge (last None) [] judge (last (Some 4))
goes_not-back judge seen goes = watches_not-failing judge (goes (from calm) [] (watches judge seen))

goes_not-by : (judge : JudgeView) → HasSeen judge calm [] → ¬ GoesOnBy (λ w. []) judge (last None) judge (last (Some 4))
goes_not-by judge seen goes = watches_not-failing judge (goes (from calm) [] (watches judge seen))

-- ---- a measured run, of the seed 7

rounds-undamaged : (w : World) (g : Lcg) (count : ℕ) (v : World) → IsUndamaged v (stretches scheduler.Rounds two_nodes w g count).0
rounds-undamaged w g zero v = refl
rounds-undamaged w g (suc count) v =
    let before = (stretches scheduler.Rounds two_nodes w g count).0 in
    let now = run w (before ++ round two_nodes) in
    undamaged-append v (before ++ round two_nodes) (leaves now)
    (undamaged-append v before (round two_nodes) (rounds-undamaged w g count v) (λ u. refl))
    (leaves-undamaged now (range_with_len 0 now.net.nodes))

abbrev from_seven : World
from_seven = scrambled two_nodes (seeded 7)

keeps-net : (scrambled two_nodes (record { state = 14886976994342444554; increment = 2172230297942992439 })).net ≡ two_nodes
unfolding draw
keeps-net = refl

-- it is watched once its judge has seen 35 sweeps, and serves after them at the latest
run-watched : (judge : JudgeView) (l : LastFailures) (count : ℕ) → 35 ≤ judge.sweeps → counted_from l.serving ≤ 35
    → IsWatched (from from_seven) (stretches scheduler.Rounds two_nodes from_seven (seeded 7) count).0 judge l
    → IsRunWatched two_nodes scheduler.Rounds 7 false judge l
run-watched judge l count seen within watched = record {
  count = count;
  enough = inl (omega (arith, sharp-two, seen));
  undamaged = rounds-undamaged from_seven (seeded 7) count from_seven;
  watched = watched;
  network = ap (λ (g : Lcg). (scrambled two_nodes g).net) seeds-seven ∙ keeps-net;
  within = omega (arith, sharp-two, within);
}

-- no run fails to serve after 35 sweeps
run_not-late : (judge : JudgeView) → ¬ IsRunWatched two_nodes scheduler.Rounds 7 false judge (last (Some 35))
run_not-late judge r = let late : 36 ≤ 35 = r.within in omega (arith, late)

-- one that looks at the layers shows them
run_not-unlayered : (judge : JudgeView) (serving : Option ℕ) → ¬ IsRunWatched two_nodes scheduler.Rounds 7 true judge (last serving)
run_not-unlayered judge serving r = r.watched.layers
