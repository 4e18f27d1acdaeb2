-- The laws of one edge, for every capacity of its links and whatever payloads are handed in as
-- present. Each is about the direction from near to far.
use Rattle.std.specs.Prelude.{◌≡◌, ℕ, ◌+◌, ◌*◌, ◌<◌, ◌≤◌, ◌⊎◌, Bool, IsTrue, List, ◌∷◌, ◌++◌}
use Rattle.std.specs.List.{AllByRecursion}
use Rattle.link_model.specs.topology.Ranges.{frame_fits, payload_fits}
use Rattle.link_model.specs.topology.declared.frame.Frame.{Frame}
use Rattle.link_model.specs.topology.declared.frame.Payload.{Payload}
use Rattle.link_model.specs.topology.declared.frame.Ranges.{Ranges}
use Rattle.link_model.specs.declared.item.Item.{Item}
use Rattle.link_model.specs.declared.item.Item.TheVariants as item
use Rattle.k_state.specs.Ring.{Step}
use Rattle.data_link.specs.Port.{PortState, port_after, port_fits}
use Rattle.data_link.specs.Edge.{EdgeState, EdgeEvent, TakeOut, TakeBack, IsEdgeInRange, IsStable, edge_run, edge_step, edge_step_with, link_ring, moves, moves_in}
use Rattle.data_link.specs.Sweep.{IsStrictSweep, IsSweep, PresentPasses, Sweeps}

-- ---- steps

-- an event is some changes of the link ring, followed by as many head moves as near's number makes;
-- this holds with every modulus of the numbers
abbrev pub EventIsStep : Type 0
EventIsStep =
    (modulus capacity : ℕ) (s : EdgeState) (e : EdgeEvent)
    → Step modulus (moves s e) (link_ring s) (link_ring (edge_step_with modulus capacity s e))

-- an event keeps an edge in range
abbrev pub RangeStays : Type 0
RangeStays =
    (capacity : ℕ) (s : EdgeState) (e : EdgeEvent) → IsEdgeInRange capacity s
    → IsEdgeInRange capacity (edge_step capacity s e)

-- ---- stable links

-- an event keeps a stable link stable
abbrev pub StableStays : Type 0
StableStays =
    (capacity : ℕ) (s : EdgeState) (e : EdgeEvent) → IsEdgeInRange capacity s → IsStable capacity s
    → IsStable capacity (edge_step capacity s e)

-- a run keeps it stable
abbrev pub StableOutlastsRuns : Type 0
StableOutlastsRuns =
    (capacity : ℕ) (s : EdgeState) (es : List EdgeEvent) → IsEdgeInRange capacity s
    → IsStable capacity s → IsStable capacity (edge_run capacity s es)

-- a link is stable once near's number has moved 2C + 2 times
abbrev pub StableAfterMoves : Type 0
StableAfterMoves =
    (capacity : ℕ) (s : EdgeState) (es : List EdgeEvent) → IsEdgeInRange capacity s
    → 2 * capacity + 2 ≤ moves_in capacity s es
    → IsStable capacity (edge_run capacity s es)

-- ---- sweeps

-- a strict sweep is a sweep
abbrev pub StrictSweepIsSweep : Type 0
StrictSweepIsSweep =
    (capacity : ℕ) (s : EdgeState) (es : List EdgeEvent) → IsEdgeInRange capacity s
    → IsStrictSweep capacity s es → IsSweep capacity s es

-- two sweeps in a row contain a move of near's number
abbrev pub TwoSweepsMove : Type 0
TwoSweepsMove =
    (capacity : ℕ) (s : EdgeState) (first second : List EdgeEvent) → IsSweep capacity s first
    → IsSweep capacity (edge_run capacity s first) second
    → 0 < moves_in capacity s (first ++ second)

-- so 2k sweeps contain at least k moves
abbrev pub SweepsMove : Type 0
SweepsMove =
    (capacity k r : ℕ) (s : EdgeState) (es : List EdgeEvent) → 2 * k ≤ r → Sweeps capacity s r es
    → k ≤ moves_in capacity s es

-- and a link is stable after 4(C + 1) sweeps
abbrev pub StableAfterSweeps : Type 0
StableAfterSweeps =
    (capacity : ℕ) (s : EdgeState) (es : List EdgeEvent) → IsEdgeInRange capacity s
    → Sweeps capacity s (4 * (capacity + 1)) es
    → IsStable capacity (edge_run capacity s es)

-- ---- payloads

-- an event leaves the staged payload as it is, or stages the one that near hands in as present
abbrev pub StagedIsPresent : Type 0
StagedIsPresent =
    (capacity : ℕ) (s : EdgeState) (e : EdgeEvent)
    → ((edge_step capacity s e).near.staged ≡ s.near.staged)
    ⊎ ((present : Payload) × (e ≡ TakeBack present)
    × ((edge_step capacity s e).near.staged ≡ present))

-- on a stable link an event leaves far's copy as it is, or copies what near has staged
abbrev pub CopyIsStaged : Type 0
CopyIsStaged =
    (capacity : ℕ) (s : EdgeState) (e : EdgeEvent) → IsEdgeInRange capacity s → IsStable capacity s
    → ((edge_step capacity s e).far.copy ≡ s.far.copy)
    ⊎ ((edge_step capacity s e).far.copy ≡ s.near.staged)

-- on a stable link far's copy is the payload of each frame as it is taken, whether its number is
-- new or not
abbrev pub TakenIsCopied : Type 0
TakenIsCopied =
    (capacity : ℕ) (s : EdgeState) (present : Payload) (f : Frame) (items : List Item)
    → IsStable capacity s → s.out ≡ item.Frame f ∷ items
    → (edge_step capacity s (TakeOut present)).far.copy ≡ f.payload

-- on a stable link, what holds of the staged payload, of far's copy and of each payload handed in
-- goes on holding of the staged payload and of far's copy
abbrev pub PayloadsKeep : Type 0
PayloadsKeep =
    (test : Payload → Bool) (capacity : ℕ) (s : EdgeState) (e : EdgeEvent)
    → IsEdgeInRange capacity s → IsStable capacity s → PresentPasses test e
    → IsTrue (test s.near.staged) → IsTrue (test s.far.copy)
    → IsTrue (test (edge_step capacity s e).near.staged)
    × IsTrue (test (edge_step capacity s e).far.copy)

-- a payload that was handed in is staged once near's number has moved: what holds of each payload
-- handed in then holds of the staged one
abbrev pub MoveRefreshesStaged : Type 0
MoveRefreshesStaged =
    (test : Payload → Bool) (capacity : ℕ) (s : EdgeState) (es : List EdgeEvent)
    → AllByRecursion (PresentPasses test) es → 0 < moves_in capacity s es
    → IsTrue (test (edge_run capacity s es).near.staged)

-- on a stable link a sweep brings the staged payload to far's copy: what holds of the staged
-- payload and of each payload handed in holds, after the sweep, of the staged payload and of far's
-- copy
abbrev pub SweepRefreshesCopy : Type 0
SweepRefreshesCopy =
    (test : Payload → Bool) (capacity : ℕ) (s : EdgeState) (es : List EdgeEvent)
    → IsEdgeInRange capacity s → IsStable capacity s → IsSweep capacity s es
    → AllByRecursion (PresentPasses test) es → IsTrue (test s.near.staged)
    → IsTrue (test (edge_run capacity s es).near.staged)
    × IsTrue (test (edge_run capacity s es).far.copy)

-- so on a stable link, what holds of each payload handed in within three sweeps holds of the staged
-- payload and of far's copy at their end
abbrev pub ThreeSweepsRefresh : Type 0
ThreeSweepsRefresh =
    (test : Payload → Bool) (capacity : ℕ) (s : EdgeState) (es : List EdgeEvent)
    → IsEdgeInRange capacity s → IsStable capacity s → Sweeps capacity s 3 es
    → AllByRecursion (PresentPasses test) es
    → IsTrue (test (edge_run capacity s es).near.staged)
    × IsTrue (test (edge_run capacity s es).far.copy)
