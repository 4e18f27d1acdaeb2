-- The text that a simulation writes: a line for each refused line of the events text, then the
-- text of the world that it leads to.
use Rattle.std.specs.Prelude.{ℕ, ◌+◌, List, [], ◌∷◌, ◌++◌, is_some, if◌then◌else◌, Option, Some, None, option_map, codes, decimal, flat_map}
use Rattle.topology.specs.Network.{Network}
use Rattle.judge.specs.run_model.World.{World}
use Rattle.judge.specs.run_model.Start.{world_with_spares}
use Rattle.judge.specs.run_model.Step.{refusal, step}
use Rattle.judge.specs.run_model.Run.{run}
use Rattle.judge.specs.run_model.declared.event.Event.{Event}
use Rattle.judge.specs.run_model.declared.event.EventFault.{EventFault}
use Rattle.judge.specs.run_model.declared.event.EventFault.TheVariants.{NoNode, NoLink, NoItem, OutOfRange, Full, Twice, Stranger, NoSpare, Apart}
use Rattle.events_text.specs.declared.text_line.TextLine.{TextLine}
use Rattle.events_text.specs.declared.text_line.TextLine.TheVariants.{Passed, Unread, Said}
use Rattle.events_text.specs.EventsText.{text_lines}
use Rattle.judge.specs.Judging.{counted_up_to}
use Rattle.world.specs.StateText.{state_text}

-- how a refusal is written
abbrev pub fault_name : EventFault → List ℕ
fault_name NoNode = codes "NoNode"
fault_name NoLink = codes "NoLink"
fault_name NoItem = codes "NoItem"
fault_name OutOfRange = codes "OutOfRange"
fault_name Full = codes "Full"
fault_name Twice = codes "Twice"
fault_name Stranger = codes "Stranger"
fault_name NoSpare = codes "NoSpare"
fault_name Apart = codes "Apart"

-- the start of a simulation: nothing has happened, and 8 pairs of links are spare
abbrev pub simulated_start : Network → World
simulated_start net = world_with_spares net 8

-- why a line is refused in a world, if it is: it is unread, or its event is refused
abbrev pub line_refusal : World → TextLine → Option (List ℕ)
line_refusal w Passed = None
line_refusal w Unread = Some (codes "Unread")
line_refusal w (Said event) = option_map fault_name (refusal w event)

-- `line N: NAME` and a newline, if line N is refused; else nothing
abbrev pub refusal_line : ℕ → Option (List ℕ) → List ℕ
refusal_line number None = []
refusal_line number (Some name) = codes "line " ++ decimal number ++ codes ": " ++ name ++ codes "\n"

-- the world after a line
abbrev pub line_step : World → TextLine → World
line_step w (Said event) = step w event
line_step w _ = w

-- the refusal lines of a text's lines, numbered from this number on
abbrev pub refusal_lines : World → ℕ → List TextLine → List ℕ
refusal_lines w number [] = []
refusal_lines w number (line ∷ lines) = refusal_line number (line_refusal w line) ++ refusal_lines (line_step w line) (number + 1) lines

-- how many lines are refused
abbrev pub refused_lines : World → List TextLine → ℕ
refused_lines w [] = 0
refused_lines w (line ∷ lines) = (if is_some (line_refusal w line) then 1 else 0) + refused_lines (line_step w line) lines

-- the event that a line spells, if it spells one
abbrev pub said_event : TextLine → List Event
said_event (Said event) = event ∷ []
said_event _ = []

-- the events that lines spell, in order
abbrev pub said_events : List TextLine → List Event
said_events lines = flat_map said_event lines

-- the events of a text
abbrev pub events_of : List ℕ → List Event
events_of bytes = said_events (text_lines bytes)

-- the refusal lines of a text's lines, numbered from 1 on
abbrev pub refusals_of : World → List TextLine → List ℕ
refusals_of start lines = refusal_lines start 1 lines

-- the simulated text of a text whose events contain this number of sweeps: its refusal lines, then
-- the world that it leads to
abbrev pub simulated_text : World → List ℕ → ℕ → List ℕ
simulated_text start bytes sweeps = refusals_of start (text_lines bytes) ++ state_text (run start (events_of bytes)) (counted_up_to sweeps)
