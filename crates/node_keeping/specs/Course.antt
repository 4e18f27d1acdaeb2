-- When `up` ends its nodes.
use Rattle.std.specs.Prelude.{Bool, true, false, ◌||◌, if◌then◌else◌, Option, None, Some, List, [], ◌∷◌}
use Rattle.held_signals.specs.declared.signals.Signals.{Signals}
use Rattle.held_signals.specs.Signals.{no_signals, signals_without, has_any}
use Rattle.node_keeping.specs.declared.keeper.Seen.{Seen}
use Rattle.node_keeping.specs.declared.keeper.Seen.TheVariants.{Asked, Urged}
use Rattle.node_keeping.specs.declared.course.UpStage.{UpStage}
use Rattle.node_keeping.specs.declared.course.UpStage.TheVariants.{Running, Ending, Killing}
use Rattle.node_keeping.specs.declared.course.UpSights.{UpSights}
use Rattle.node_keeping.specs.declared.course.UpCourse.{UpCourse}

abbrev pub new_course : UpCourse
new_course = record { stage = Running; seen = no_signals }

abbrev pub is_ending : UpStage → Bool
is_ending Running = false
is_ending _ = true

-- a signal, or the end of its standard input, asks `up` to end
abbrev pub is_asked : UpSights → Bool
is_asked sights = sights.has_input_ended || has_any sights.signals

-- Ctrl-C once more, or a signal that had not come before, asks it again
abbrev pub is_urged : UpSights → Signals → Bool
is_urged sights seen = sights.is_pressed || has_any (signals_without seen sights.signals)

abbrev pub stage_then : UpSights → Signals → UpStage → UpStage
stage_then sights seen Running = if is_asked sights then Ending else Running
stage_then sights seen Ending = if is_urged sights seen then Killing else Ending
stage_then sights seen Killing = Killing

-- it remembers which signals had come when it was first asked
abbrev pub seen_then : UpSights → Signals → UpStage → Signals
seen_then sights seen Running = if is_asked sights then sights.signals else seen
seen_then sights seen _ = seen

-- what each node's keeper is asked
abbrev pub word_then : UpSights → Signals → UpStage → Option Seen
word_then sights seen Running = if is_asked sights then Some Asked else None
word_then sights seen Ending = if is_urged sights seen then Some Urged else None
word_then sights seen Killing = None

-- what they are asked, one after another
abbrev pub words : Signals → UpStage → List UpSights → List (Option Seen)
words seen stage [] = []
words seen stage (sights ∷ rest) =
    word_then sights seen stage
    ∷ words (seen_then sights seen stage) (stage_then sights seen stage) rest
