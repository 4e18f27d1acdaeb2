-- Sweep counts of lists on two nodes.
use Rattle.std.proofs.Common.{◌≡◌, ℕ, List, [], ◌∷◌, ◌++◌, true, false, IsTrue, refl, sym, subst, arith}
use Rattle.std.proofs.lemmas.Bool.{both_ways}
use Rattle.link_model.specs.topology.Network.{are_joined}
use Rattle.run_model.specs.World.{World}
use Rattle.run_model.specs.Run.{run}
use Rattle.run_model.specs.Sweep.{has_full_tick, is_renewed, IsSweep}
use Rattle.run_model.specs.Count.{IsGreatestCount, after_damage, IsSweepCount}
use Rattle.run_model.specs.Greedy.{IsUnfinished, IsCounted}
use Rattle.run_model.specs.Stretch.{old_items}
use Rattle.run_model.specs.declared.event.Event.{Event}
use Rattle.run_model.specs.declared.event.Event.TheVariants.{Send, Take, Tick, Damage}
use Rattle.run_model.specs.declared.event.Harm.TheVariants as harm
use Rattle.run_model.proofs.Joined.{IsEdge, AreEdges}
use Rattle.run_model.proofs.Renewing.{renewed-early}
use Rattle.run_model.proofs.Counts.{count-rises, counted-greatest}
use Rattle.run_model.proofs.RowsTwo.{two_nodes, each-node, each-link}
use Rattle.run_model.proofs.RowsSweep.{start, least, least-is_sweep}

are-joined : AreEdges two_nodes
are-joined = each-link (IsEdge two_nodes)
    (record { apart = λ e. absurd (omega arith); first = omega arith; second = omega arith; joined = refl; back = refl })
    (record { apart = λ e. absurd (omega arith); first = omega arith; second = omega arith; joined = refl; back = refl })

-- a stretch that leaves a link unrenewed is unfinished
unrenewed : (w : World) (es : List Event) (u v : ℕ) → IsTrue (are_joined w.net.edges u v) → is_renewed w es u v ≡ false → IsUnfinished w es
unrenewed w es u v joined none front back e sweep =
    both_ways (is_renewed w es u v) none (subst (λ l. is_renewed w l u v ≡ true) (sym e) (renewed-early w front back u v (sweep.renewed u v joined)))

-- the shortest sweep without its last event, the take of node 0
abbrev nearly : List Event
nearly = Tick 0 ∷ Tick 1 ∷ Send 0 1 ∷ Take 0 1 ∷ Send 1 0 ∷ []

one-counted : IsCounted start least [] 1
one-counted = count-rises start 0 [] nearly (Take 1 0) (omega arith)
    (record { sweeps = refl; unfinished = unrenewed start nearly 1 0 refl refl }) least-is_sweep

-- the shortest sweep counts as one
one-sweep : IsSweepCount start least 1
one-sweep = counted-greatest start 1 least [] are-joined refl one-counted.sweeps one-counted.unfinished

-- the same events twice are two sweeps
again-is_sweep : IsSweep (run start least) least
again-is_sweep = record {
  undamaged = refl;
  ticked = each-node (λ v. has_full_tick (run start least) least v ≡ true) refl refl;
  renewed = each-link (λ u v. is_renewed (run start least) least u v ≡ true) refl refl;
}

two-counted : IsCounted start (least ++ least) [] 2
two-counted = count-rises start 1 least nearly (Take 1 0) (omega arith)
    (record { sweeps = one-counted.sweeps; unfinished = unrenewed (run start least) nearly 1 0 refl refl }) again-is_sweep

two-sweeps : IsSweepCount start (least ++ least) 2
two-sweeps = counted-greatest start 2 (least ++ least) [] are-joined refl two-counted.sweeps two-counted.unfinished

-- without the last event it is still one sweep
not-yet_two : IsSweepCount start (least ++ nearly) 1
not-yet_two = counted-greatest start 1 least nearly are-joined refl one-counted.sweeps (unrenewed (run start least) nearly 1 0 refl refl)

-- damage resets the count: what follows it lacks one event
none-since_damage : IsSweepCount start (least ++ Damage (harm.Empty 0 1) ∷ nearly) 0
none-since_damage = counted-greatest (run start (least ++ Damage (harm.Empty 0 1) ∷ [])) 0 [] nearly are-joined refl refl
    (unrenewed (run start (least ++ Damage (harm.Empty 0 1) ∷ [])) nearly 1 0 refl refl)

-- ---- the greatest count, whether or not there was damage

-- the two sweeps are all that their list holds
greatest-two : IsGreatestCount start (least ++ least) 2
greatest-two = two-sweeps

-- one is not the greatest number, since a second sweep follows the first
greatest_not-one : ¬ IsGreatestCount start (least ++ least) 1
greatest_not-one count = count.no_more (least, least, refl, least-is_sweep, (least, [], refl, again-is_sweep, tt))

-- a list that lacks the last event of a sweep does not hold one
greatest_not-unfinished : ¬ IsGreatestCount start nearly 1
greatest_not-unfinished count = unrenewed start nearly 1 0 refl refl count.held.0 count.held.1 count.held.2 count.held.3

-- ---- the moment after the last damage

-- of two accepted harms the last counts: its value is written, and the send is still to come
abbrev harms : List Event
harms = Damage (harm.Value 0 1 6) ∷ Tick 1 ∷ Damage (harm.Value 0 1 5) ∷ Send 0 1 ∷ []

moment-after_last : ((after_damage start harms).rest ≡ Send 0 1 ∷ []) × (((after_damage start harms).world.node 0).value 1 ≡ 5)
    × ((after_damage start harms).world.link 0 1 ≡ [])
moment-after_last = (refl, refl, refl)

moment_not-after_first : ¬ ((after_damage start harms).rest ≡ Tick 1 ∷ Damage (harm.Value 0 1 5) ∷ Send 0 1 ∷ [])
moment_not-after_first e = absurd cc

-- nothing is to come if the last event is damage
abbrev broken : List Event
broken = Send 0 1 ∷ Damage (harm.Empty 0 1) ∷ []

moment-at_the_end : after_damage start broken ≡ record { world = run start broken; rest = [] }
moment-at_the_end = refl

-- it is the start if there is no damage, and a refused harm is none
moment-at_start : after_damage start least ≡ record { world = start; rest = least }
moment-at_start = refl

abbrev refused : List Event
refused = Send 0 1 ∷ Damage (harm.Value 0 1 7) ∷ []

moment-at_refused : after_damage start refused ≡ record { world = start; rest = refused }
moment-at_refused = refl

-- ---- old items

-- an old item that is taken or lost is one old item fewer; a new item does not count
old-taken : old_items (run start (Send 0 1 ∷ [])) (Take 0 1 ∷ Send 0 1 ∷ []) 0 1 ≡ 0
old-taken = refl

old-kept : old_items (run start (Send 0 1 ∷ [])) (Send 0 1 ∷ Tick 1 ∷ []) 0 1 ≡ 1
old-kept = refl
