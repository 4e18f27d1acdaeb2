-- Where the privilege goes on a good token ring.
use Rattle.std.specs.Prelude.{◌≡◌, ◌≢◌, ℕ, ◌-◌, ◌*◌, ◌<◌, ◌≤◌, IsTrue, List, ◌∷◌, ◌++◌}
use Rattle.run_model.specs.World.{World}
use Rattle.run_model.specs.Step.{step}
use Rattle.run_model.specs.Run.{run, IsUndamaged}
use Rattle.run_model.specs.Sweep.{Sweeps}
use Rattle.run_model.specs.Visited.{is_privileged_once}
use Rattle.run_model.specs.declared.event.Event.{Event}
use Rattle.convergence.specs.Ring.{IsTokenRingGood}
use Rattle.convergence.specs.Settled.{IsSettled}
use Rattle.convergence.specs.Moves.{head_moves}

-- while the head moves twice, each node is privileged at some moment
abbrev pub PrivilegeGoesRound : Type 0
PrivilegeGoesRound =
    (w : World) (es : List Event) (v : ℕ) → IsSettled w → IsUndamaged w es → IsTokenRingGood w
    → v < w.net.nodes
    → 2 ≤ head_moves w es → IsTrue (is_privileged_once w es v)

-- so each node is privileged at some moment of any 16(n - 1) sweeps
abbrev pub PrivilegeVisits : Type 0
PrivilegeVisits =
    (w : World) (es : List Event) (v : ℕ) → IsSettled w → IsUndamaged w es → IsTokenRingGood w
    → v < w.net.nodes
    → Sweeps w (16 * (w.net.nodes - 1)) es → IsTrue (is_privileged_once w es v)

-- an event of a run at which a machine of v moves: it changes the machine's value
pub record MachineMove (w : World) (es : List Event) (v : ℕ) : Type 0 where
  pub machine : ℕ
  pub before : List Event
  pub event : Event
  pub after : List Event
  pub parts : es ≡ before ++ event ∷ after
  pub moves : ((step (run w before) event).node v).value machine
      ≢ ((run w before).node v).value machine

-- and in any 8(n - 1) sweeps a machine of each node moves
abbrev pub MachinesMove : Type 0
MachinesMove =
    (w : World) (es : List Event) (v : ℕ) → IsSettled w → IsUndamaged w es → IsTokenRingGood w
    → v < w.net.nodes
    → Sweeps w (8 * (w.net.nodes - 1)) es → MachineMove w es v
