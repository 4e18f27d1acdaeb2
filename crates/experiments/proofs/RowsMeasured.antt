-- Small examples of plans, of what a run has shown, and of summaries, and some that look like them
-- and are none.
use Rattle.std.proofs.Common.{◌≡◌, ◌≢◌, ℕ, ◌<◌, true, false, zero, suc, List, [], ◌∷◌, ◌++◌, length, Option, Some, None, Err, refl, inl, inr, arith}
use Rattle.std.proofs.lemmas.Grind.{common_steps}
use Rattle.std.specs.Ordering.{nat_cmp}
use Rattle.std.specs.List.Sorted.{IsSorted}
use Rattle.rand_pcg.specs.Lcg.{Lcg}
use Rattle.schedules.specs.damage_tool.Draws.{draw}
use Rattle.topology.specs.Eccentricity.{sharp_of}
use Rattle.run_model.specs.World.{World}
use Rattle.run_model.specs.Step.{with_desk}
use Rattle.run_model.specs.Run.{run}
use Rattle.run_model.specs.Start.{default_world}
use Rattle.run_model.specs.Count.{IsSweepCount}
use Rattle.run_model.specs.Headline.{IsServing}
use Rattle.run_model.specs.Sweep.{IsSweep}
use Rattle.run_model.specs.declared.event.Event.{Event}
use Rattle.run_model.specs.declared.event.Event.TheVariants.{Leave, Send, Take, Tick}
use Rattle.run_model.proofs.RowsTwo.{two_nodes, calm}
use Rattle.run_model.proofs.RowsServing.{calm-serves, two_tokens, two_tokens-do_not_serve}
use Rattle.experiments.specs.declared.measured_run.Recovery.{Recovery}
use Rattle.experiments.specs.declared.measured_run.Scheduler.TheVariants as scheduler
use Rattle.experiments.specs.declared.plan.Order.TheVariants as order
use Rattle.experiments.specs.declared.plan.PlanFault.TheVariants.{Memory, Sink}
use Rattle.experiments.specs.declared.summary.ThreeNumberSummary.{ThreeNumberSummary}
use Rattle.experiments.specs.Plan.{CountsSinkFailures, harms_of, planned}
use Rattle.experiments.specs.Recovery.{counted_from, FailedLast, IsLastNow}
use Rattle.experiments.specs.Scheduled.{HasEnough, leave_at, leaves, plain, stretch_of, stretches}
use Rattle.experiments.specs.Shown.{IsRunOf, IsShown}
use Rattle.experiments.specs.Summary.{IsSummary, IsSummaryOf}

abbrev start : World
start = default_world two_nodes

-- its first words are 0 and 0
abbrev pub still : Lcg
still = record { state = 0; increment = 1 }

-- ---- plans

-- without a scramble there are the rounds alone: each ticks the nodes, and then hands over as many
-- items as a link holds, and one more, on each link
plans-none : harms_of two_nodes None ≡ []
plans-none = refl

plans-round : planned two_nodes None None (order.Rounds 1)
    ≡ Tick 0 ∷ Tick 1 ∷ Send 0 1 ∷ Take 0 1 ∷ Send 0 1 ∷ Take 0 1 ∷ Send 1 0 ∷ Take 1 0 ∷ Send 1 0 ∷ Take 1 0 ∷ []
plans-round = refl

plans_not-more : planned two_nodes None None (order.Rounds 0) ≢ Tick 0 ∷ []
plans_not-more = grind arith

-- that the sink failed is answered only if its count rose
counts-sink : CountsSinkFailures {T = ℕ} (Err Sink) 3 4
counts-sink = (omega arith, inl (omega arith))

counts_not-sink : ¬ CountsSinkFailures {T = ℕ} (Err Sink) 3 3
counts_not-sink c = grind (arith, c.1)

counts-memory : CountsSinkFailures {T = ℕ} (Err Memory) 3 3
counts-memory = omega arith

-- ---- stretches

stretch-round : (n : ℕ) (g : Lcg) → stretch_of scheduler.Rounds two_nodes n g
    ≡ (Tick 0 ∷ Tick 1 ∷ Send 0 1 ∷ Take 0 1 ∷ Send 0 1 ∷ Take 0 1 ∷ Send 1 0 ∷ Take 1 0 ∷ Send 1 0 ∷ Take 1 0 ∷ [], g)
stretch-round n g = refl

-- the words 0 and 0 name the link from 0 to 1; in half of the rounds, the second of each two, it carries its items
stretch-slow_link : stretch_of (scheduler.SlowLink 50) two_nodes 0 still
    ≡ (Tick 0 ∷ Tick 1 ∷ Send 1 0 ∷ Take 1 0 ∷ Send 1 0 ∷ Take 1 0 ∷ [], still)
unfolding draw
stretch-slow_link = refl

stretch-slow_link_next : stretch_of (scheduler.SlowLink 50) two_nodes 1 still ≡ stretch_of scheduler.Rounds two_nodes 1 still
unfolding draw
stretch-slow_link_next = refl

-- and the word 0 names node 0, which then ticks
stretch-slow_node : stretch_of (scheduler.SlowNode 50) two_nodes 0 still
    ≡ (Tick 1 ∷ Send 0 1 ∷ Take 0 1 ∷ Send 0 1 ∷ Take 0 1 ∷ Send 1 0 ∷ Take 1 0 ∷ Send 1 0 ∷ Take 1 0 ∷ [], still)
unfolding draw
stretch-slow_node = refl

stretch-slow_node_next : stretch_of (scheduler.SlowNode 50) two_nodes 3 still ≡ stretch_of scheduler.Rounds two_nodes 3 still
unfolding draw
stretch-slow_node_next = refl

stretch_not-all : stretch_of (scheduler.SlowNode 50) two_nodes 2 still ≢ stretch_of scheduler.Rounds two_nodes 2 still
unfolding draw
stretch_not-all = grind arith

-- the stretches count on: of two, the first is without the slow link, and the second with it
stretches-slow : length (stretches (scheduler.SlowLink 50) two_nodes start still 2).0 ≡ 16
unfolding draw
stretches-slow = refl

-- node 1 lends to ticket 7
abbrev pub lending : World
lending = with_desk start 1 (record { waiting = 8 ∷ []; lent = Some 7; left = 0; served = false })

-- whoever has the lock gives it back, and who waits does not leave
leaves-lent : leaves lending ≡ Leave 1 7 ∷ []
leaves-lent = refl

leaves_not-waiting : leave_at lending 1 ≢ Leave 1 8 ∷ []
leaves_not-waiting = grind arith

leaves-nobody : leaves start ≡ []
leaves-nobody = refl

-- a node that is none has nothing to give back
leaves-no_node : leave_at lending 2 ≡ []
leaves-no_node = refl

-- two stretches are a round, and then one more
stretches-two : (g : Lcg) → length (stretches scheduler.Rounds two_nodes start g 2).0 ≡ 20
stretches-two g = refl

stretches-none : (g : Lcg) → (stretches scheduler.Rounds two_nodes start g 0).0 ≡ []
stretches-none g = refl

plain_not-clients : plain.clients ≢ true
plain_not-clients = grind arith

-- ---- what a run has shown

-- the calm world serves, and one in which both nodes are privileged does not
last-never : FailedLast calm [] None
last-never = (calm-serves, tt)

last_not-never : ¬ FailedLast two_tokens [] None
last_not-never failed = two_tokens-do_not_serve failed.0

-- if it fails now, the last failure is now, and else the one before
now-fails : IsLastNow IsServing two_tokens 4 None (Some 4)
now-fails = inr (two_tokens-do_not_serve, refl)

now_not-serves : ¬ IsLastNow IsServing two_tokens 4 (Some 2) (Some 2)
now_not-serves (inl serves) = two_tokens-do_not_serve serves.0
now_not-serves (inr fails) = grind (arith, fails.1)

now-serves : IsLastNow IsServing calm 4 (Some 2) (Some 2)
now-serves = inl (calm-serves, refl)

now_not-fails : ¬ IsLastNow IsServing calm 4 (Some 2) (Some 4)
now_not-fails (inl serves) = grind (arith, serves.1)
now_not-fails (inr fails) = fails.0 calm-serves

-- a run that failed to serve after two sweeps served after three
counted : counted_from (Some 2) ≡ 3
counted = refl

counted-never : counted_from None ≡ 0
counted-never = refl

counted_not-two : counted_from (Some 2) ≢ 2
counted_not-two = grind arith

-- no event holds no sweep
no-sweep : (w : World) (front back : List Event) → 0 < w.net.nodes → [] ≡ front ++ back → IsSweep w front → ⊥
no-sweep w [] back some parts sweep = grind (arith, sweep.ticked 0 some)
no-sweep w (e ∷ front) back some parts sweep = grind (arith, parts)

pub none-counted : (w : World) → 0 < w.net.nodes → IsSweepCount w [] 0
none-counted w some = record { held = tt; no_more = λ s. no-sweep w s.0 s.1 some s.2 s.3 }

counted-none : (w : World) (count : ℕ) → 0 < w.net.nodes → IsSweepCount w [] count → count ≡ 0
counted-none w zero some are = refl
counted-none w (suc count) some are = absurd (no-sweep w are.held.0 are.held.1 some are.held.2 are.held.3)

-- a run that failed to serve at its end did so after as many sweeps as there were
pub last-now : FailedLast two_tokens [] (Some 0)
last-now = record {
  front = [];
  back = [];
  parts = refl;
  count = 0;
  counted = none-counted two_tokens (omega arith);
  sweeps_are = refl;
  fails = two_tokens-do_not_serve;
  holds_then = tt;
}

front-serves : (front back : List Event) → [] ≡ front ++ back → IsServing (run calm front)
front-serves [] back parts = calm-serves
front-serves (e ∷ front) back parts = grind (arith, parts)

pub last_not-now : (sweeps : ℕ) → ¬ FailedLast calm [] (Some sweeps)
last_not-now sweeps failed = failed.fails (front-serves failed.front failed.back failed.parts)

abbrev recovery : ℕ → ℕ → Recovery
recovery sweeps seen = record { seed = 4; sweeps = sweeps; seen = seen }

-- a run without events that serves has shown no sweep, and needed none
shows : IsShown calm [] 0 0
shows = record { undamaged = refl; last = None; failed = last-never; sweeps_are = refl; count = 0; counted = none-counted calm (omega arith); seen_are = refl }

shows_not-seen : ¬ IsShown calm [] 0 5
shows_not-seen s = grind (arith, common_steps, s.seen_are, counted-none calm s.count (omega arith) s.counted)

needed-none : (last : Option ℕ) → FailedLast calm [] last → counted_from last ≡ 0
needed-none None failed = refl
needed-none (Some sweeps) failed = absurd (last_not-now sweeps failed)

shows_not-sweeps : ¬ IsShown calm [] 7 0
shows_not-sweeps s = grind (arith, s.sweeps_are, needed-none s.last s.failed)

-- two nodes need 35 sweeps by the sharper bound; a run is over after them, or after 35,000 stretches
pub sharp-two : sharp_of two_nodes ≡ 35
sharp-two = refl

enough : HasEnough two_nodes 35 1
enough = inl (omega (arith, sharp-two))

enough-stretches : HasEnough two_nodes 0 35000
enough-stretches = inr (omega (arith, sharp-two))

enough_not-yet : ¬ HasEnough two_nodes 34 34
enough_not-yet (inl seen) = omega (arith, sharp-two, seen)
enough_not-yet (inr count) = omega (arith, sharp-two, count)

-- a run bears its seed
run_not-another : (r : Recovery) → r.seed ≡ 5 → ¬ IsRunOf two_nodes scheduler.Rounds 4 r
run_not-another r five is = omega (arith, five, is.seed_is)

-- ---- summaries

ascends : IsSorted nat_cmp (1 ∷ 9 ∷ [])
ascends zero d low high = refl
ascends (suc k) d low high = absurd (omega (arith, high))

-- of two numbers the lower one is in the middle
sums-two : IsSummary (9 ∷ 1 ∷ []) (record { least = 1; median = 1; most = 9 })
sums-two = record {
  some = omega arith;
  ascending = 1 ∷ 9 ∷ [];
  same = record { moves = (0, 1) ∷ []; below = (omega arith, omega arith, tt); is = refl };
  sorted = ascends;
  least = refl;
  median = refl;
  most = refl;
}

sums_not-upper : ¬ IsSummary (9 ∷ 1 ∷ []) (record { least = 1; median = 9; most = 9 })
sums_not-upper s = grind (arith, s.least, s.median)

sums_not-more : ¬ IsSummary (4 ∷ []) (record { least = 4; median = 4; most = 5 })
sums_not-more s = grind (arith, s.least, s.most)

sums-none : IsSummaryOf [] None
sums-none = refl

sums_not-none : ¬ IsSummaryOf (4 ∷ []) None
sums_not-none none = grind (arith, none)

sums_not-nothing : (s : ThreeNumberSummary) → ¬ IsSummaryOf [] (Some s)
sums_not-nothing s sums = omega (arith, sums.some)
