-- The end of a simulation: the text of the world, after the refusal lines.
use Rattle.std.proofs.Common.{◌≡◌, ◌∙◌, ap, sym, ℕ, ◌≤◌, List, [], Option, Some, Result, Ok, Err, IsErrAnd, IfErr, length, arith, inl, inr}
use Rattle.std.proofs.lemmas.Grind.{common_steps}
use Rattle.judge.specs.run_model.World.{World}
use Rattle.judge.specs.run_model.Run.{run}
use Rattle.judge.specs.run_model.NodeCounts.{lending_count}
use Rattle.judge.specs.run_model.Count.{IsSweepCount}
use Rattle.world.specs.declared.simulation.Summary.{Summary}
use Rattle.world.specs.declared.simulation.SimFault.{SimFault}
use Rattle.world.specs.declared.simulation.SimFault.TheVariants.{Memory, Read, Long, Write}
use Rattle.events_text.specs.EventsText.{text_lines}
use Rattle.judge.specs.Judging.{counted_up_to}
use Rattle.judge.specs.JudgeView.{AreSweepsSeen}
use Rattle.world.specs.SimulatedText.{events_of, refusals_of}
use Rattle.world.specs.Simulating.{longest_text, IsShown, IsHalfShown, IsSimulated, HasCause}
use Rattle.world.specs.StateText.{state_text}
use Rattle.byte_streams.specs.Streams.{Takes, TakesABeginning, Rose, CountsFailures}
use Rattle.world.specs.UnderWay.{SimulationView, HasRun, Reads, Finishes}
use Rattle.judge.specs.configuration.ConfigurationView.{world_of}
use Rattle.world.proofs.Writing.{takes_both, then_beginning}

module _ (start : World) (bytes : List ℕ) (before between after : Option (List ℕ)) (s : SimulationView) (sweeps : ℕ) (seen : AreSweepsSeen s.judge sweeps)
    (h : HasRun start (text_lines bytes) before between s) where
  counted : (count : ℕ) × IsSweepCount start (events_of bytes) count × (sweeps ≡ counted_up_to count)
  counted = seen start (events_of bytes) h.seen

  abbrev shown_text : List ℕ
  shown_text = state_text (run start (events_of bytes)) (counted_up_to counted.0)

  same_text : state_text (world_of s.judge.configuration) sweeps ≡ shown_text
  same_text = ap (λ w. state_text w sweeps) h.seen.judging.now_is ∙ ap (state_text (run start (events_of bytes))) counted.2

  -- the text of the world was written
  pub is_shown : (lending : ℕ) → lending ≡ lending_count (world_of s.judge.configuration) → Takes (state_text (world_of s.judge.configuration) sweeps) between after
      → IsShown start bytes before after (record { refused = s.refused; sweeps = sweeps; lending = lending })
  is_shown lending is_lending written = record {
    count = counted.0;
    counted = counted.1;
    written = takes_both (refusals_of start (text_lines bytes)) shown_text before between after h.written (rw same_text at written);
    sweeps = counted.2;
    refused = h.refused_are;
    lending = is_lending ∙ ap lending_count h.seen.judging.now_is;
  }

  -- only the beginning of it was written
  pub is_half_shown : TakesABeginning (state_text (world_of s.judge.configuration) sweeps) between after → IsHalfShown start bytes before after
  is_half_shown b = record {
    count = counted.0;
    counted = counted.1;
    written = then_beginning (refusals_of start (text_lines bytes)) shown_text before between after h.written (rw same_text at b);
  }

-- the answer is this fault
pub fault_is : {T : Type 0} (result : Result T SimFault) (fault : SimFault) → IsErrAnd result (λ e. e ≡ fault) → result ≡ Err fault
fault_is (Ok value) fault failed = grind (arith, common_steps)
fault_is (Err e) fault failed = ap (λ f. Err f) failed

-- what is claimed for a text that was not read to its end
pub not_read : (start : World) (bytes : List ℕ) (rest before now : Option (List ℕ)) (s : SimulationView) (fault : SimFault)
    → Reads (Err fault) start bytes rest before now s → IsSimulated start bytes rest before now (Err fault)
not_read start bytes rest before now s Memory r = absurd r
not_read start bytes rest before now s Read r = r
not_read start bytes rest before now s Long r = r
not_read start bytes rest before now s Write r = inl r

-- what is claimed for a text that was
pub all_was_read : (start : World) (bytes : List ℕ) (rest before now : Option (List ℕ)) (result : Result Summary SimFault)
    → rest ≡ Some [] → length bytes ≤ longest_text → IfErr result (λ fault. fault ≡ Write) → Finishes result start bytes before now
    → IsSimulated start bytes rest before now result
all_was_read start bytes rest before now (Ok summary) ended short write f = (ended, short, f)
all_was_read start bytes rest before now (Err fault) ended short write stopped = rw write (inr (ended, short, stopped))

-- the failures of two calls, one after the other
pub rose_then : (failures more most : ℕ) → failures ≤ more → Rose more most → Rose failures most
rose_then failures more most higher rose = grind (arith, common_steps)

-- a sink's failure has its cause
pub has_cause : (result : Result Summary SimFault) (source source_after sink between sink_after : ℕ) → IfErr result (λ fault. fault ≡ Write) → sink ≤ between
    → CountsFailures result between sink_after → HasCause result source source_after sink sink_after
has_cause (Ok summary) source source_after sink between sink_after write higher counts = grind (arith, common_steps)
has_cause (Err fault) source source_after sink between sink_after write higher counts = rw write (rose_then sink between sink_after higher counts.1)

-- a count that did not fall in either of two calls
pub higher_then : (result : Result Summary SimFault) (failures more most : ℕ) → failures ≤ more → CountsFailures result more most → failures ≤ most
higher_then (Ok summary) failures more most first second = omega (arith, first, second)
higher_then (Err fault) failures more most first second = omega (arith, first, second.0)
