-- The plain laws of runs and sweeps, for every network, world and list of events.
use Rattle.std.specs.Prelude.{◌≡◌, ℕ, ◌+◌, ◌<◌, ◌≤◌, true, false, IsTrue, is_some, suc, List, [], ◌∷◌, ◌++◌, ◌||◌, length, if◌then◌else◌}
use Rattle.link_model.specs.topology.Network.{Network, IsAcceptedNetwork, are_joined}
use Rattle.run_model.specs.SameFrame.{IsSameFrame}
use Rattle.node_core.specs.data_link.Edge.{IsEdgeInRange, edge_step, edge_run}
use Rattle.node_core.specs.data_link.Sweep as edge
use Rattle.node_core.specs.data_link.Sweep.{is_out_renewed, is_back_renewed}
use Rattle.run_model.specs.World.{World, IsWorldInRange}
use Rattle.run_model.specs.Start.{world_with_spares}
use Rattle.run_model.specs.Step.{refusal, step}
use Rattle.run_model.specs.Run.{run, is_damage, IsUndamaged}
use Rattle.run_model.specs.Sweep.{IsSweep, Sweeps, link_act, is_full_tick, has_full_tick, is_renewed}
use Rattle.run_model.specs.Strict.{StrictSweeps}
use Rattle.run_model.specs.Count.{IsGreatestCount, after_damage, IsSweepCount}
use Rattle.link_model.specs.OldItems.{old_after, takes_new}
use Rattle.run_model.specs.Stretch.{old_items}
use Rattle.run_model.specs.Greedy.{IsEarliest, IsUnfinished, IsCounted}
use Rattle.run_model.specs.Privilege.{is_privileged}
use Rattle.run_model.specs.Visited.{is_visited}
use Rattle.run_model.specs.Project.{edge_of, edge_event, edge_events}
use Rattle.run_model.specs.Touched.{is_node_touched, is_link_touched}
use Rattle.run_model.specs.declared.event.Event.{Event}

-- ---- steps and runs

-- a refused event changes nothing
abbrev pub RefusedChangesNothing : Type 0
RefusedChangesNothing = (w : World) (e : Event) → IsTrue (is_some (refusal w e)) → step w e ≡ w

-- a list without damage leaves the network unchanged
abbrev pub NetworkStays : Type 0
NetworkStays = (w : World) (es : List Event) → IsUndamaged w es → (run w es).net ≡ w.net

-- every list leaves the nodes, root, capacity and lease unchanged
abbrev pub FrameStays : Type 0
FrameStays = (w : World) (es : List Event) → IsSameFrame w.net (run w es).net

-- the world in which nothing has happened is in range, for each accepted network and any number of
-- spare pairs
abbrev pub StartIsInRange : Type 0
StartIsInRange = (net : Network) (pairs : ℕ) → IsAcceptedNetwork net → IsWorldInRange (world_with_spares net pairs)

-- a run from a world in range leads to one in range
abbrev pub RangesStay : Type 0
RangesStay = (w : World) (es : List Event) → IsWorldInRange w → IsWorldInRange (run w es)

-- the run of two lists is the run of the second from where the first one led
abbrev pub RunsJoin : Type 0
RunsJoin = (w : World) (xs ys : List Event) → run w (xs ++ ys) ≡ run (run w xs) ys

-- two lists, one after the other, are without damage if the first is, and so is the second from
-- where the first one led,
abbrev pub UndamagedJoins : Type 0
UndamagedJoins = (w : World) (xs ys : List Event) → IsUndamaged w xs → IsUndamaged (run w xs) ys → IsUndamaged w (xs ++ ys)

-- and only then
abbrev pub UndamagedSplits : Type 0
UndamagedSplits = (w : World) (xs ys : List Event) → IsUndamaged w (xs ++ ys) → IsUndamaged w xs × IsUndamaged (run w xs) ys

-- an event that is not one of v's own leaves v unchanged
abbrev pub OwnNodeAlone : Type 0
OwnNodeAlone = (w : World) (e : Event) (v : ℕ) → is_node_touched e v ≡ false → (step w e).node v ≡ w.node v

-- and one that is not a link's own leaves its items unchanged
abbrev pub OwnLinkAlone : Type 0
OwnLinkAlone = (w : World) (e : Event) (u v : ℕ) → is_link_touched e u v ≡ false → (step w e).link u v ≡ w.link u v

-- ---- one edge of a world

-- a world in range has each edge in range
abbrev pub EdgesAreInRange : Type 0
EdgesAreInRange =
    (w : World) (u v : ℕ) → IsWorldInRange w → IsTrue (are_joined w.net.edges u v) → IsEdgeInRange w.net.capacity (edge_of w u v)

-- an event that is no damage is, for each edge, that edge's own event
abbrev pub EdgeSteps : Type 0
EdgeSteps =
    (w : World) (e : Event) (u v : ℕ) → IsWorldInRange w → IsTrue (are_joined w.net.edges u v) → is_damage w e ≡ false
    → edge_of (step w e) u v ≡ edge_step w.net.capacity (edge_of w u v) (edge_event w e u v)

-- and so a run without damage is a run of the edge's own events
abbrev pub EdgeRuns : Type 0
EdgeRuns =
    (w : World) (es : List Event) (u v : ℕ) → IsWorldInRange w → IsTrue (are_joined w.net.edges u v) → IsUndamaged w es
    → edge_of (run w es) u v ≡ edge_run w.net.capacity (edge_of w u v) (edge_events w es u v)

-- a stretch renews a link exactly if the edge's own events do
abbrev pub EdgeIsRenewed : Type 0
EdgeIsRenewed =
    (w : World) (es : List Event) (u v : ℕ) → IsWorldInRange w → IsTrue (are_joined w.net.edges u v)
    → (is_renewed w es u v ≡ is_out_renewed w.net.capacity (edge_of w u v) (edge_events w es u v))
    × (is_renewed w es v u ≡ is_back_renewed w.net.capacity (edge_of w u v) (edge_events w es u v))

-- and r sweeps are r sweeps of the edge's own events
abbrev pub EdgeSweeps : Type 0
EdgeSweeps =
    (w : World) (r : ℕ) (es : List Event) (u v : ℕ) → IsWorldInRange w → IsTrue (are_joined w.net.edges u v) → Sweeps w r es
    → edge.Sweeps w.net.capacity (edge_of w u v) r (edge_events w es u v)

-- ---- sweeps

-- more events without damage before or after a sweep leave it a sweep
abbrev pub SweepGrows : Type 0
SweepGrows =
    (w : World) (front es back : List Event) → IsWorldInRange w → IsUndamaged w (front ++ es ++ back) → IsSweep (run w front) es
    → IsSweep w (front ++ es ++ back)

-- a list that holds r + s sweeps is a list that holds r, and then one that holds s
abbrev pub SweepsSplit : Type 0
SweepsSplit =
    (w : World) (r s : ℕ) (es : List Event) → Sweeps w (r + s) es
    → (first rest : List Event) × (es ≡ first ++ rest) × Sweeps w r first × Sweeps (run w first) s rest

-- And conversely. After its r sweeps the first list may have more events; the next sweep then
-- includes them, so there must be no damage among them.
abbrev pub SweepsJoin : Type 0
SweepsJoin =
    (w : World) (r s : ℕ) (first rest : List Event) → IsWorldInRange w → IsUndamaged w first → Sweeps w r first → Sweeps (run w first) s rest
    → Sweeps w (r + s) (first ++ rest)

-- a list that holds r sweeps holds any smaller number
abbrev pub FewerSweeps : Type 0
FewerSweeps = (w : World) (r s : ℕ) (es : List Event) → r ≤ s → Sweeps w s es → Sweeps w r es

-- a list that holds r sweeps still does with events after it
abbrev pub SweepsGrow : Type 0
SweepsGrow = (w : World) (r : ℕ) (es back : List Event) → Sweeps w r es → Sweeps w r (es ++ back)

-- a list that holds r strict sweeps holds r sweeps
abbrev pub StrictSweepsAreSweeps : Type 0
StrictSweepsAreSweeps = (w : World) (r : ℕ) (es : List Event) → IsWorldInRange w → StrictSweeps w r es → Sweeps w r es

-- ---- a stretch event by event

-- a node has its full tick in the event, or had it before
abbrev pub TicksGoOn : Type 0
TicksGoOn = (w : World) (es : List Event) (e : Event) (v : ℕ) → has_full_tick w (es ++ e ∷ []) v ≡ (has_full_tick w es v || is_full_tick (run w es) e v)

-- a link is renewed by the event, if that takes a new item, or was renewed before
abbrev pub RenewedGoesOn : Type 0
RenewedGoesOn =
    (w : World) (es : List Event) (e : Event) (u v : ℕ) → IsWorldInRange w → IsTrue (are_joined w.net.edges u v) → IsUndamaged w es
    → is_renewed w (es ++ e ∷ []) u v
    ≡ (is_renewed w es u v || takes_new (link_act u v e) (old_items w es u v) (length ((run w es).link u v)))

-- at the start all items of a link are old ones,
abbrev pub OldItemsStart : Type 0
OldItemsStart = (w : World) (u v : ℕ) → old_items w [] u v ≡ length (w.link u v)

-- a take and a loss may take one of them away,
abbrev pub OldItemsGoOn : Type 0
OldItemsGoOn = (w : World) (es : List Event) (e : Event) (u v : ℕ) → old_items w (es ++ e ∷ []) u v ≡ old_after (link_act u v e) (old_items w es u v)

-- and there are no more old items than items.
abbrev pub OldItemsAreThere : Type 0
OldItemsAreThere =
    (w : World) (es : List Event) (u v : ℕ) → IsWorldInRange w → IsTrue (are_joined w.net.edges u v) → IsUndamaged w es
    → old_items w es u v ≤ length ((run w es).link u v)

-- ---- counting greedily

-- Ending a sweep at the first event that completes it loses none: if the list holds r + 1 sweeps,
-- the rest after the earliest sweep holds r.
abbrev pub EarliestIsBest : Type 0
EarliestIsBest =
    (w : World) (r : ℕ) (first rest : List Event) → IsWorldInRange w → IsUndamaged w (first ++ rest) → IsEarliest w first
    → Sweeps w (suc r) (first ++ rest) → Sweeps (run w first) r rest

-- So the greatest count of a list is one more than that of the rest after its earliest sweep,
abbrev pub GreedyCount : Type 0
GreedyCount =
    (w : World) (r : ℕ) (first rest : List Event) → IsWorldInRange w → IsUndamaged w (first ++ rest) → IsSweep w first → IsEarliest w first
    → IsGreatestCount (run w first) rest r → IsGreatestCount w (first ++ rest) (suc r)

-- and 0 if no prefix of the list is a sweep.
abbrev pub NoSweepCount : Type 0
NoSweepCount = (w : World) (es : List Event) → IsUnfinished w es → IsGreatestCount w es 0

-- So the count so far is the greatest count.
abbrev pub CountedIsGreatest : Type 0
CountedIsGreatest =
    (w : World) (r : ℕ) (done rest : List Event) → IsWorldInRange w → IsUndamaged w (done ++ rest) → IsCounted w done rest r
    → IsGreatestCount w (done ++ rest) r

-- Counting starts with nothing,
abbrev pub CountStarts : Type 0
CountStarts = (w : World) → IsWorldInRange w → IsCounted w [] [] 0

-- an event that finishes no sweep is one more of the unfinished stretch,
abbrev pub CountStays : Type 0
CountStays =
    (w : World) (r : ℕ) (done rest : List Event) (e : Event) → IsCounted w done rest r → ¬ IsSweep (run w done) (rest ++ e ∷ [])
    → IsCounted w done (rest ++ e ∷ []) r

-- and one that finishes a sweep adds it to the count.
abbrev pub CountRises : Type 0
CountRises =
    (w : World) (r : ℕ) (done rest : List Event) (e : Event) → IsWorldInRange w → IsCounted w done rest r → IsSweep (run w done) (rest ++ e ∷ [])
    → IsCounted w (done ++ (rest ++ e ∷ [])) [] (suc r)

-- a list has at most one sweep count
abbrev pub OneCount : Type 0
OneCount = (w : World) (es : List Event) (r s : ℕ) → IsSweepCount w es r → IsSweepCount w es s → r ≡ s

-- ---- since the last damage

-- the world right after the last damage of a run is in range, and leads to the run's end without
-- damage
abbrev pub MomentLeads : Type 0
MomentLeads =
    (w : World) (es : List Event) → IsWorldInRange w
    → IsWorldInRange (after_damage w es).world
    × IsUndamaged (after_damage w es).world (after_damage w es).rest
    × (run (after_damage w es).world (after_damage w es).rest ≡ run w es)

-- if one more event is no damage, that moment stays, and has one more event after it
abbrev pub MomentStays : Type 0
MomentStays =
    (w : World) (es : List Event) (e : Event) → is_damage (run w es) e ≡ false
    → after_damage w (es ++ e ∷ []) ≡ record { world = (after_damage w es).world; rest = (after_damage w es).rest ++ e ∷ [] }

-- if it is damage, the moment is the one right after it
abbrev pub MomentMoves : Type 0
MomentMoves =
    (w : World) (es : List Event) (e : Event) → is_damage (run w es) e ≡ true
    → after_damage w (es ++ e ∷ []) ≡ record { world = step (run w es) e; rest = [] }

-- what the privilege has visited after one more event: damage starts over, and any other event
-- adds the nodes that are privileged then
abbrev pub VisitsGoOn : Type 0
VisitsGoOn =
    (w : World) (es : List Event) (e : Event) (v : ℕ)
    → is_visited w (es ++ e ∷ []) v ≡ ((if is_damage (run w es) e then false else is_visited w es v) || is_privileged (step (run w es) e) v)
