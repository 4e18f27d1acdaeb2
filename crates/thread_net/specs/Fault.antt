-- What holds if nodes did not run all their turns.
use Rattle.std.specs.Prelude.{◌≡◌, ◌⊎◌, ℕ, ◌<◌, List}
use Rattle.judge.specs.run_model.World.{World}
use Rattle.judge.specs.run_model.declared.event.Event.{Event}
use Rattle.judge.specs.configuration.ConfigurationView.{ConfigurationView, world_of}
use Rattle.thread_net.specs.declared.run.RunFault.{RunFault}
use Rattle.thread_net.specs.declared.run.RunFault.TheVariants.{Memory, Spawn}
use Rattle.thread_net.specs.ThreadRun.{IsThreadRun}

-- What nodes did is a run in which each did all its turns or none, and some node none.
pub record IsPartRun (turns : ℕ) (start : World) (events : List Event) (last : World) : Type 0 where
  pub did : ℕ → ℕ
  pub each : (v : ℕ) → (did v ≡ turns) ⊎ (did v ≡ 0)
  pub idle : (v : ℕ) × (v < start.net.nodes) × (did v ≡ 0)
  pub run : IsThreadRun did start events last

-- if memory was refused, the world is as it was; otherwise what nodes did is such a run
abbrev pub IsFault : ℕ → ConfigurationView → RunFault → Type 0
IsFault turns world (Memory back) = back ≡ world
IsFault turns world (Spawn woven) = IsPartRun turns (world_of world) woven.events.items (world_of woven.world)
