-- What a simulation keeps between two pieces of its text, and its invariant.
use Rattle.std.specs.Prelude.{◌≡◌, ℕ, ◌≤◌, List, [], ◌∷◌, ◌++◌, Option, Some, Result, Ok, Err, OnOk, length, ◌⊎◌}
use Rattle.judge.specs.run_model.World.{World}
use Rattle.judge.specs.run_model.declared.event.Event.{Event}
use Rattle.events_text.specs.declared.text_line.TextLine.{TextLine}
use Rattle.world.specs.declared.simulation.Summary.{Summary}
use Rattle.world.specs.declared.simulation.SimFault.{SimFault}
use Rattle.world.specs.declared.simulation.SimFault.TheVariants.{Memory, Read, Long, Write}
use Rattle.events_text.specs.EventsText.{ended_lines, text_lines}
use Rattle.judge.specs.JudgeView.{JudgeView, HasSeen}
use Rattle.judge.specs.Judging.{counted_up_to}
use Rattle.byte_lines.specs.Kept.{Kept, StandsAfter}
use Rattle.judge.specs.configuration.ConfigurationView.{world_of}
use Rattle.judge.specs.run_model.Run.{run}
use Rattle.world.specs.SimulatedText.{refused_lines, said_events, refusals_of, events_of}
use Rattle.world.specs.Simulating.{longest_text, IsShown, IsHalfShown, IsCutShort, IsTooLong, IsStopped}
use Rattle.byte_streams.specs.Streams.{Takes, TakesABeginning}

-- a judge, what is kept of the line under way, how many lines there were, and how many of them
-- were refused
pub record SimulationView : Type 0 where
  pub judge : JudgeView
  pub reader : Kept
  pub lines : ℕ
  pub refused : ℕ

-- what the old judge has seen, the new one has seen too, and then the event of the line, if it
-- spells one
abbrev pub HasSeenLine : JudgeView → TextLine → JudgeView → Type 0
HasSeenLine old line new = (start : World) (es : List Event) → HasSeen old start es → HasSeen new start (es ++ said_events (line ∷ []))

-- These lines were run from the start on, and their refusal lines were written after what the sink
-- had taken before.
pub record HasRun (start : World) (lines : List TextLine) (before now : Option (List ℕ)) (s : SimulationView) : Type 0 where
  pub seen : HasSeen s.judge start (said_events lines)
  pub lines_are : s.lines ≡ length lines
  pub refused_are : s.refused ≡ counted_up_to (refused_lines start lines)
  pub written : Takes (refusals_of start lines) before now

-- The whole lines in these bytes were run, and the line under way is kept.
pub record IsUnderWay (start : World) (bytes : List ℕ) (before now : Option (List ℕ)) (s : SimulationView) : Type 0 where
  pub stands : StandsAfter 64 bytes s.reader
  pub has_run : HasRun start (ended_lines bytes) before now s

-- these lines were run, or the sink failed before all their refusal lines were written
abbrev pub Runs : {E : Type 0} → Result (Unit {0}) E → World → List TextLine → Option (List ℕ) → Option (List ℕ) → SimulationView → Type 0
Runs (Ok _) start lines before now s = HasRun start lines before now s
Runs (Err _) start lines before now s = TakesABeginning (refusals_of start lines) before now

-- after any lines that were run, the next one is run; the sink's bytes are those before and after
-- the call
abbrev pub RunsNext : {E : Type 0} → SimulationView → Option (List ℕ) → TextLine → Result (Unit {0}) E → SimulationView → Option (List ℕ) → Type 0
RunsNext old taken line result new taken_now =
    (start : World) (lines : List TextLine) (before : Option (List ℕ)) → HasRun start lines before taken old → Runs result start (lines ++ line ∷ []) before taken_now new

-- after any bytes that were taken, the last line of the text is run, if no newline ended it
abbrev pub RunsLast : {E : Type 0} → SimulationView → Option (List ℕ) → Result (Unit {0}) E → SimulationView → Option (List ℕ) → Type 0
RunsLast old taken result new taken_now =
    (start : World) (bytes : List ℕ) (before : Option (List ℕ)) → IsUnderWay start bytes before taken old → Runs result start (text_lines bytes) before taken_now new

-- these bytes were taken, or the sink failed before all refusal lines of their whole lines were
-- written
abbrev pub GoesOn : {E : Type 0} → Result (Unit {0}) E → World → List ℕ → Option (List ℕ) → Option (List ℕ) → SimulationView → Type 0
GoesOn (Ok _) start bytes before now s = IsUnderWay start bytes before now s
GoesOn (Err _) start bytes before now s = TakesABeginning (refusals_of start (ended_lines bytes)) before now

-- after any bytes that were taken, this piece is taken
abbrev pub TakesNext : {E : Type 0} → SimulationView → Option (List ℕ) → List ℕ → Result (Unit {0}) E → SimulationView → Option (List ℕ) → Type 0
TakesNext old taken piece result new taken_now =
    (start : World) (bytes : List ℕ) (before : Option (List ℕ)) → IsUnderWay start bytes before taken old → GoesOn result start (bytes ++ piece) before taken_now new

-- all bytes were read and taken, or a fault ended the reading
abbrev pub Reads : Result (Unit {0}) SimFault → World → List ℕ → Option (List ℕ) → Option (List ℕ) → Option (List ℕ) → SimulationView → Type 0
Reads (Ok _) start bytes rest before now s = (rest ≡ Some []) × (length bytes ≤ longest_text) × IsUnderWay start bytes before now s
Reads (Err Memory) start bytes rest before now s = ⊥
Reads (Err Read) start bytes rest before now s = IsCutShort start bytes rest before now
Reads (Err Long) start bytes rest before now s = IsTooLong start bytes rest before now
Reads (Err Write) start bytes rest before now s = IsStopped start bytes rest before now

-- what becomes of all that the source had to give, from the start on
abbrev pub ReadsAll : SimulationView → Option (List ℕ) → Option (List ℕ) → Result (Unit {0}) SimFault → SimulationView → Option (List ℕ) → Option (List ℕ) → Type 0
ReadsAll old rest taken result new rest_now taken_now =
    (start : World) (bytes : List ℕ) (before : Option (List ℕ)) → rest ≡ Some bytes → IsUnderWay start [] before taken old → Reads result start bytes rest_now before taken_now new

-- the simulated text was written, or the sink failed: at the last line, or at the text of the world
abbrev pub Finishes : {E : Type 0} → Result Summary E → World → List ℕ → Option (List ℕ) → Option (List ℕ) → Type 0
Finishes (Ok summary) start bytes before now = IsShown start bytes before now summary
Finishes (Err _) start bytes before now = TakesABeginning (refusals_of start (text_lines bytes)) before now ⊎ IsHalfShown start bytes before now

-- after any bytes that were taken, the text ends
abbrev pub EndsThere : {E : Type 0} → SimulationView → Option (List ℕ) → Result Summary E → Option (List ℕ) → Type 0
EndsThere old taken result taken_now =
    (start : World) (bytes : List ℕ) (before : Option (List ℕ)) → IsUnderWay start bytes before taken old → Finishes result start bytes before taken_now

-- whatever bytes have been taken: if the text of the world was written, this is the world that
-- their events lead to
abbrev pub LeadsThere : {T E : Type 0} → SimulationView → Option (List ℕ) → Result T E → SimulationView → Type 0
LeadsThere old taken result new =
    (start : World) (bytes : List ℕ) (before : Option (List ℕ)) → IsUnderWay start bytes before taken old
    → OnOk result (world_of new.judge.configuration ≡ run start (events_of bytes))
