-- What the answers of a simulation say about what was read and written.
use Rattle.std.specs.Prelude.{◌≡◌, ℕ, ◌<◌, ◌≤◌, List, [], Option, Some, Result, Ok, Err, take, length, ◌⊎◌}
use Rattle.judge.specs.run_model.World.{World}
use Rattle.judge.specs.run_model.Run.{run}
use Rattle.judge.specs.run_model.NodeCounts.{lending_count}
use Rattle.judge.specs.run_model.Count.{IsSweepCount}
use Rattle.world.specs.declared.simulation.Summary.{Summary}
use Rattle.world.specs.declared.simulation.SimFault.{SimFault}
use Rattle.world.specs.declared.simulation.SimFault.TheVariants.{Memory, Read, Long, Write}
use Rattle.events_text.specs.EventsText.{ended_lines, text_lines}
use Rattle.judge.specs.Judging.{counted_up_to}
use Rattle.world.specs.SimulatedText.{refused_lines, events_of, refusals_of, simulated_text}
use Rattle.byte_streams.specs.Streams.{HasRead, Takes, TakesABeginning, Rose}

-- the most bytes of an events text
abbrev pub longest_text : ℕ
longest_text = 1073741824

-- Exactly the simulated text of these bytes was written, and the counts are the text's.
pub record IsShown (start : World) (bytes : List ℕ) (before after : Option (List ℕ)) (summary : Summary) : Type 0 where
  pub count : ℕ
  pub counted : IsSweepCount start (events_of bytes) count
  pub written : Takes (simulated_text start bytes count) before after
  pub sweeps : summary.sweeps ≡ counted_up_to count
  pub refused : summary.refused ≡ counted_up_to (refused_lines start (text_lines bytes))
  pub lending : summary.lending ≡ lending_count (run start (events_of bytes))

-- Only a beginning of the simulated text of these bytes was written.
pub record IsHalfShown (start : World) (bytes : List ℕ) (before after : Option (List ℕ)) : Type 0 where
  pub count : ℕ
  pub counted : IsSweepCount start (events_of bytes) count
  pub written : TakesABeginning (simulated_text start bytes count) before after

-- The first bytes were read, no more than a text may have, and the refusal lines of their whole
-- lines were written.
pub record IsCutShort (start : World) (bytes : List ℕ) (rest before after : Option (List ℕ)) : Type 0 where
  pub count : ℕ
  pub read : HasRead count bytes rest
  pub short : count ≤ longest_text
  pub written : Takes (refusals_of start (ended_lines (take count bytes))) before after

-- More was read than a text may have, and the refusal lines of the whole lines in the allowed part
-- were written.
pub record IsTooLong (start : World) (bytes : List ℕ) (rest before after : Option (List ℕ)) : Type 0 where
  pub count : ℕ
  pub read : HasRead count bytes rest
  pub long : longest_text < count
  pub written : Takes (refusals_of start (ended_lines (take longest_text bytes))) before after

-- The first bytes were read, and only a beginning of the refusal lines of their whole lines was
-- written.
pub record IsStopped (start : World) (bytes : List ℕ) (rest before after : Option (List ℕ)) : Type 0 where
  pub count : ℕ
  pub read : HasRead count bytes rest
  pub written : TakesABeginning (refusals_of start (ended_lines (take count bytes))) before after

-- All was read, and only a beginning was written: of the refusal lines of all lines, or of the whole
-- simulated text.
abbrev pub IsStoppedAtTheEnd : World → List ℕ → Option (List ℕ) → Option (List ℕ) → Option (List ℕ) → Type 0
IsStoppedAtTheEnd start bytes rest before after =
    (rest ≡ Some []) × (length bytes ≤ longest_text)
    × (TakesABeginning (refusals_of start (text_lines bytes)) before after ⊎ IsHalfShown start bytes before after)

-- What an answer says about the bytes that the source had to give, those that it still has, and
-- what the sink had taken before and after.
abbrev pub IsSimulated : World → List ℕ → Option (List ℕ) → Option (List ℕ) → Option (List ℕ) → Result Summary SimFault → Type 0
IsSimulated start bytes rest before after (Ok summary) = (rest ≡ Some []) × (length bytes ≤ longest_text) × IsShown start bytes before after summary
IsSimulated start bytes rest before after (Err Memory) = (rest ≡ Some bytes) × (after ≡ before)
IsSimulated start bytes rest before after (Err Read) = IsCutShort start bytes rest before after
IsSimulated start bytes rest before after (Err Long) = IsTooLong start bytes rest before after
IsSimulated start bytes rest before after (Err Write) =
    IsStopped start bytes rest before after ⊎ IsStoppedAtTheEnd start bytes rest before after

-- A result that holds more than a summary, reduced to its summary.
abbrev pub summary_in : {T E : Type 0} → (T → Summary) → Result T E → Result Summary E
summary_in summary_of (Ok value) = Ok (summary_of value)
summary_in summary_of (Err fault) = Err fault

-- The source's failure is returned only if its count rose, and the sink's only if its count rose.
abbrev pub HasCause : {T : Type 0} → Result T SimFault → ℕ → ℕ → ℕ → ℕ → Type 0
HasCause (Err Read) source source_after sink sink_after = Rose source source_after
HasCause (Err Write) source source_after sink sink_after = Rose sink sink_after
HasCause _ source source_after sink sink_after = Unit {0}
