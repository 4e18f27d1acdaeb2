-- What a simulation between a source and a sink says about what was read and written.
use Rattle.std.specs.Prelude.{◌≡◌, ℕ, List, Option, Result, Ok, Err}
use Rattle.world.specs.run_model.World.{World}
use Rattle.world.specs.declared.simulation.Summary.{Summary}
use Rattle.world.specs.declared.simulation.SimFault.{SimFault}
use Rattle.world.specs.Simulating.{IsSimulated}
use Rattle.byte_streams.specs.Streams.{Rose}
use Rattle.command_faults.specs.declared.fault.Fault.{Fault}
use Rattle.command_faults.specs.declared.fault.Fault.TheVariants.{EventsUnreadable, Output}
use Rattle.command_parts.specs.SimulationFault.{fault_of}

-- a simulation's fault is reported as the program's fault for it; if the simulation is done, the
-- fault is the output's
abbrev pub IsReportedAs : Result Summary SimFault → Fault → Type 0
IsReportedAs (Ok _) said = said ≡ Output
IsReportedAs (Err fault) said = said ≡ fault_of fault

-- Something was simulated, and its fault is reported, or the failure of its output.
pub record IsFailed (start : World) (bytes : List ℕ) (rest before after : Option (List ℕ))
    (said : Fault) : Type 0 where
  pub answer : Result Summary SimFault
  pub simulated : IsSimulated start bytes rest before after answer
  pub cause : IsReportedAs answer said

-- these bytes were simulated and the summary is theirs, or a fault is reported
abbrev pub IsDone : World → List ℕ → Option (List ℕ) → Option (List ℕ) → Option (List ℕ)
    → Result Summary Fault → Type 0
IsDone start bytes rest before after (Ok summary) =
    IsSimulated start bytes rest before after (Ok summary)
IsDone start bytes rest before after (Err fault) = IsFailed start bytes rest before after fault

-- "events cannot be read" comes only if the source's count of failures rose, "the output fails"
-- only if the sink's did
abbrev pub IsCaused : {T : Type 0} → Result T Fault → ℕ → ℕ → ℕ → ℕ → Type 0
IsCaused (Err EventsUnreadable) source source_after sink sink_after = Rose source source_after
IsCaused (Err Output) source source_after sink sink_after = Rose sink sink_after
IsCaused _ source source_after sink sink_after = Unit {0}
