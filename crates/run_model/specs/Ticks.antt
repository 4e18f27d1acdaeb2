-- What an event does to the machines and the desk of one node.
use Rattle.std.specs.Prelude.{◌≡◌, ℕ, ◌<◌, ◌⊎◌, false, is_some, IsTrue}
use Rattle.node_core.specs.Step.{ticked}
use Rattle.run_model.specs.World.{World, site}
use Rattle.run_model.specs.Step.{step}
use Rattle.run_model.specs.Run.{is_damage}
use Rattle.run_model.specs.declared.event.Event.{Event}
use Rattle.run_model.specs.declared.event.Event.TheVariants.{Tick}

-- the node rests from one world to the next: its machines keep their values, and it lends only if
-- it lent before
pub record IsResting (old new : World) (v : ℕ) : Type 0 where
  pub values : (new.node v).value ≡ (old.node v).value
  pub loan : IsTrue (is_some (new.node v).desk.lent) → IsTrue (is_some (old.node v).desk.lent)

-- from one world to the next the node becomes what a tick makes of it
abbrev pub IsTicking : World → World → ℕ → Type 0
IsTicking old new v = new.node v ≡ ticked (site old v) (old.node v)

-- in each event that is no damage a node rests, or becomes what a tick makes of it
abbrev pub NodesMoveInTicks : Type 0
NodesMoveInTicks = (w : World) (e : Event) (v : ℕ) → is_damage w e ≡ false → IsResting w (step w e) v ⊎ IsTicking w (step w e) v

-- a node of the network becomes in its tick what a tick makes of it
abbrev pub TicksAreAccepted : Type 0
TicksAreAccepted = (w : World) (v : ℕ) → v < w.net.nodes → IsTicking w (step w (Tick v)) v
