-- The token ring of a settled world: its one token, the moves of its head, and how it becomes good.
use Rattle.std.specs.Prelude.{◌≡◌, ℕ, ◌-◌, ◌*◌, ◌<◌, ◌≤◌, false, IsTrue, List}
use Rattle.topology.specs.Network.{ring_of}
use Rattle.k_state.specs.Ring.{Run}
use Rattle.run_model.specs.World.{World, IsWorldInRange}
use Rattle.run_model.specs.Step.{step}
use Rattle.run_model.specs.Run.{run, is_damage, IsUndamaged}
use Rattle.run_model.specs.Sweep.{Sweeps}
use Rattle.run_model.specs.Tree.{IsTreeReached}
use Rattle.run_model.specs.Privilege.{is_privileged, is_lending}
use Rattle.run_model.specs.declared.event.Event.{Event}
use Rattle.convergence.specs.Ring.{token_ring, IsTokenRingGood}
use Rattle.convergence.specs.Settled.{IsSettled}
use Rattle.convergence.specs.Legitimate.{IsLegitimate}
use Rattle.convergence.specs.Moves.{head_move, head_moves}

-- ---- one token

-- if the tree is reached and the token ring is good, at most one node is privileged
abbrev pub OnePrivileged : Type 0
OnePrivileged =
    (w : World) (u v : ℕ) → IsWorldInRange w → IsTreeReached w → IsTokenRingGood w
    → u < w.net.nodes → v < w.net.nodes
    → IsTrue (is_privileged w u) → IsTrue (is_privileged w v) → u ≡ v

-- in a legitimate world at most one node lends
abbrev pub OneLending : Type 0
OneLending =
    (w : World) (u v : ℕ) → IsWorldInRange w → IsLegitimate w → u < w.net.nodes → v < w.net.nodes
    → IsTrue (is_lending w u) → IsTrue (is_lending w v) → u ≡ v

-- on the good token ring of a settled world, a privileged node whose machines keep their values in
-- an event without damage stays privileged
abbrev pub PrivilegeStays : Type 0
PrivilegeStays =
    (w : World) (e : Event) (v : ℕ) → IsSettled w → is_damage w e ≡ false → IsTokenRingGood w
    → v < w.net.nodes → ((step w e).node v).value ≡ (w.node v).value
    → IsTrue (is_privileged w v) → IsTrue (is_privileged (step w e) v)

-- ---- settled worlds

-- a list without damage leads from a settled world to a settled one
abbrev pub SettledStays : Type 0
SettledStays = (w : World) (es : List Event) → IsSettled w → IsUndamaged w es → IsSettled (run w es)

-- ---- the token ring, by moves of its head

-- On the token ring of a settled world an event without damage is a run of the copying ring:
-- changes that leave the head as it is, and at most one move of the head.
abbrev pub EventIsRingRun : Type 0
EventIsRingRun =
    (w : World) (e : Event) → IsSettled w → is_damage w e ≡ false
    → Run (ring_of w.net) (head_move w e) (token_ring w) (token_ring (step w e))

-- so it is good once the head has made 6(n - 1) moves, as many as the ring has values
abbrev pub MovesTurnRingGood : Type 0
MovesTurnRingGood =
    (w : World) (es : List Event) → IsSettled w → IsUndamaged w es
    → 6 * (w.net.nodes - 1) ≤ head_moves w es → IsTokenRingGood (run w es)

-- the head moves at least once in any 8(n - 1) sweeps
abbrev pub HeadMoves : Type 0
HeadMoves =
    (w : World) (es : List Event) → IsSettled w → IsUndamaged w es
    → Sweeps w (8 * (w.net.nodes - 1)) es → 0 < head_moves w es

-- ---- the token ring, by sweeps

-- a list without damage keeps a good token ring good
abbrev pub TokenRingStaysGood : Type 0
TokenRingStaysGood =
    (w : World) (es : List Event) → IsSettled w → IsUndamaged w es → IsTokenRingGood w
    → IsTokenRingGood (run w es)

-- 48(n - 1)(n - 1) sweeps make it good
abbrev pub TokenRingTurnsGood : Type 0
TokenRingTurnsGood =
    (w : World) (es : List Event) → IsSettled w → IsUndamaged w es
    → Sweeps w (48 * (w.net.nodes - 1) * (w.net.nodes - 1)) es → IsTokenRingGood (run w es)

-- and so do 16(n - 1) sweeps
abbrev pub TokenRingTurnsGoodSoon : Type 0
TokenRingTurnsGoodSoon =
    (w : World) (es : List Event) → IsSettled w → IsUndamaged w es
    → Sweeps w (16 * (w.net.nodes - 1)) es → IsTokenRingGood (run w es)
