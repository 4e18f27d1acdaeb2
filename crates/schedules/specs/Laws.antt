-- What holds of the schedules by rounds, and of the networks that links are drawn from.
use Rattle.std.specs.Prelude.{◌≡◌, ℕ, ◌<◌, ◌≤◌, true, zero, suc, [], None, length}
use Rattle.topology.specs.Network.{Network, IsAcceptedNetwork}
use Rattle.configuration.specs.run_model.World.{World, IsWorldInRange}
use Rattle.configuration.specs.run_model.Run.{run, IsUndamaged}
use Rattle.configuration.specs.run_model.Sweep.{is_full_tick, IsSweep, Sweeps}
use Rattle.configuration.specs.run_model.declared.event.Event.TheVariants.{Tick}
use Rattle.damage_tool.specs.Laws.{AreAccepted}
use Rattle.schedules.specs.Rounds.{round, rounds}
use Rattle.schedules.specs.Slow.{parts, slow_round, slow_rounds}
use Rattle.schedules.specs.declared.slow.Slow.{Slow}

-- each tick is full: whichever node ticks next lends to nobody after it
abbrev pub AreTicksFull : World → Type 0
AreTicksFull w = (v : ℕ) → v < w.net.nodes → is_full_tick w (Tick v) v ≡ true

-- each tick is full at the start of each of the next n rounds
abbrev pub AreTicksFullFor : World → ℕ → Type 0
AreTicksFullFor w zero = Unit {0}
AreTicksFullFor w (suc n) = AreTicksFull w × AreTicksFullFor (run w (round w.net)) n

-- no client waits, and no node lends, as damage may have made one lend
abbrev pub IsIdle : World → Type 0
IsIdle w =
    (v : ℕ) → v < w.net.nodes → ((w.node v).desk.waiting ≡ []) × ((w.node v).desk.lent ≡ None)

-- a round is a sweep, from every world in which each tick is full
abbrev pub RoundIsSweep : Type 0
RoundIsSweep = (w : World) → IsWorldInRange w → AreTicksFull w → IsSweep w (round w.net)

-- n rounds are n sweeps, if each tick is full at the start of each
abbrev pub RoundsAreSweeps : Type 0
RoundsAreSweeps =
    (w : World) (n : ℕ) → IsWorldInRange w → AreTicksFullFor w n → Sweeps w n (rounds w.net n)

-- n rounds are n sweeps if no client waits and no node lends, whatever else the state is
abbrev pub IdleRoundsAreSweeps : Type 0
IdleRoundsAreSweeps =
    (w : World) (n : ℕ) → IsWorldInRange w → IsIdle w → Sweeps w n (rounds w.net n)

-- no event of the rounds is refused
abbrev pub RoundsAreAccepted : Type 0
RoundsAreAccepted = (w : World) (n : ℕ) → AreAccepted w (rounds w.net n)

-- no event of a round is damage
abbrev pub RoundIsUndamaged : Type 0
RoundIsUndamaged = (net : Network) (w : World) → IsUndamaged w (round net)

-- no event of a round with a slow link or node is damage
abbrev pub SlowRoundIsUndamaged : Type 0
SlowRoundIsUndamaged =
    (net : Network) (slow : Slow) (share i : ℕ) (w : World) → IsUndamaged w (slow_round net slow share i)

-- With a slow one, n rounds hold a sweep for each round in which it has its part, if no client waits and
-- no node lends: so of a hundred rounds as many as its share says.
abbrev pub IdleSlowRoundsHoldSweeps : Type 0
IdleSlowRoundsHoldSweeps =
    (w : World) (slow : Slow) (share n : ℕ) → share ≤ 100 → IsWorldInRange w → IsIdle w
    → Sweeps w (parts share n) (slow_rounds w.net slow share 0 n)

-- an accepted network has an edge, so there is one to draw
abbrev pub HasEdge : Type 0
HasEdge = (net : Network) → IsAcceptedNetwork net → 0 < length net.edges
