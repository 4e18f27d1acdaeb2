-- The command `threads`: all turns of all nodes, and the text of what they lead to.
use Rattle.std.specs.Prelude.{◌≡◌, ◌⊎◌, ℕ, List, Option}
use Rattle.byte_streams.specs.Streams.{Takes}
use Rattle.topology.specs.Network.{Network}
use Rattle.command_parts.specs.world.run_model.World.{World}
use Rattle.command_parts.specs.world.run_model.Start.{default_world}
use Rattle.command_parts.specs.world.run_model.Count.{IsSweepCount}
use Rattle.command_parts.specs.world.run_model.declared.event.Event.{Event}
use Rattle.command_parts.specs.world.judge.configuration.ConfigurationView.{world_of}
use Rattle.command_parts.specs.world.judge.Judging.{counted_up_to}
use Rattle.command_parts.specs.world.StateText.{state_text}
use Rattle.thread_net.specs.declared.run.Woven.{Woven}
use Rattle.thread_net.specs.declared.run.RunFault.{RunFault}
use Rattle.thread_net.specs.declared.run.RunFault.TheVariants.{Memory as MemoryRefused, Spawn}
use Rattle.command_parts.specs.command_faults.declared.fault.Fault.{Fault}
use Rattle.command_parts.specs.command_faults.declared.fault.Fault.TheVariants.{Memory, Threads, EventsUnwritable}
use Rattle.command_parts.specs.command_faults.Output.{IsUntaken}
use Rattle.thread_net.specs.ThreadRun.{IsThreadRun}

-- each node did `turns` turns, starting from fresh nodes and empty links
abbrev pub AllRan : {A : Type 0} → ℕ → Network → Woven A → Type 0
AllRan turns net woven = IsThreadRun (λ v. turns) (default_world net) woven.events.items (world_of woven.world)

-- The state text of a world was written, with the number of sweeps that the events have from the
-- start.
pub record IsStateWritten (start : World) (events : List Event) (last : World) (before after : Option (List ℕ)) : Type 0 where
  pub count : ℕ
  pub counted : IsSweepCount start events count
  pub text : Takes (state_text last (counted_up_to count)) before after

-- the program's fault if nodes cannot run on threads
abbrev pub refused : RunFault → Fault
refused (MemoryRefused _) = Memory
refused (Spawn _) = Threads

-- what they did, or what it led to, is not written: memory ran out, or the file or standard output
-- failed, or standard output has no reader any more
abbrev pub IsUnwritten : Fault → Type 0
IsUnwritten fault = (fault ≡ Memory) ⊎ ((fault ≡ EventsUnwritable) ⊎ IsUntaken fault)
