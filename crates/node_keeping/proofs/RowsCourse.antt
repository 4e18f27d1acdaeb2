-- Small examples of when `up` ends its nodes, and ones that fail.
use Rattle.std.proofs.Common.{◌≡◌, ◌≤◌, true, false, not, Some, None, List, [], ◌∷◌, filter, length, refl, arith}
use Rattle.std.specs.Prelude.{Option, is_none}
use Rattle.held_signals.specs.declared.signals.Signals.{Signals}
use Rattle.held_signals.specs.Signals.{no_signals}
use Rattle.node_keeping.specs.declared.keeper.Seen.{Seen}
use Rattle.node_keeping.specs.declared.keeper.Seen.TheVariants.{Asked, Urged}
use Rattle.node_keeping.specs.declared.course.UpStage.TheVariants.{Running, Ending, Killing}
use Rattle.node_keeping.specs.declared.course.UpSights.{UpSights}
use Rattle.node_keeping.specs.Course.{new_course, is_ending, is_asked, is_urged, stage_then, seen_then, word_then, words}
use Rattle.node_keeping.specs.CourseLaws.{asks, urges, IsSaidOnce}
use Rattle.node_keeping.proofs.Coursing.{said_once}

interrupt : Signals
interrupt = record no_signals { interrupt = true }

quiet : UpSights
quiet = record { signals = no_signals; has_input_ended = false; is_pressed = false }

-- Ctrl-C asks once, and once more urges; while it lasts nothing more is said
interrupted : words no_signals Running (quiet ∷ record quiet { signals = interrupt } ∷ record quiet { signals = interrupt }
    ∷ record quiet { signals = interrupt; is_pressed = true } ∷ record quiet { signals = interrupt; is_pressed = true } ∷ [])
    ≡ None ∷ Some Asked ∷ None ∷ Some Urged ∷ None ∷ []
unfolding quiet interrupt
interrupted = refl

-- the end of the input asks, and a signal after it urges
input-ended : words no_signals Running (record quiet { has_input_ended = true } ∷ record quiet { signals = interrupt } ∷ [])
    ≡ Some Asked ∷ Some Urged ∷ []
unfolding quiet interrupt
input-ended = refl

asked_not-quiet : is_asked quiet ≡ false
unfolding quiet
asked_not-quiet = refl

-- a signal that came before urges nobody, nor does the end of the input
urged_not-seen : is_urged (record quiet { signals = interrupt; has_input_ended = true }) interrupt ≡ false
unfolding quiet interrupt
urged_not-seen = refl

urged-other : is_urged (record quiet { signals = record interrupt { terminate = true } }) interrupt ≡ true
unfolding quiet interrupt
urged-other = refl

remembers : seen_then (record quiet { signals = interrupt }) no_signals Running ≡ interrupt
unfolding quiet interrupt
remembers = refl

remembers_not-later : seen_then (record quiet { signals = interrupt }) no_signals Ending ≡ no_signals
unfolding quiet interrupt
remembers_not-later = refl

kills-on : stage_then quiet no_signals Killing ≡ Killing
kills-on = refl

says_not-killing : word_then (record quiet { is_pressed = true }) no_signals Killing ≡ None
says_not-killing = refl

begins-running : is_ending new_course.stage ≡ false
begins-running = refl

ending : is_ending Killing ≡ true
ending = refl

asking : asks (Some Asked) ≡ true
asking = refl

asking_not-urging : asks (Some Urged) ≡ false
asking_not-urging = refl

urging : urges (Some Urged) ≡ true
urging = refl

urging_not-nothing : urges None ≡ false
urging_not-nothing = refl

-- of the words alone that ask, and of those alone that urge, at most one is said
once-asks : IsSaidOnce asks
once-asks = said_once.0

once-urges : IsSaidOnce urges
once-urges = said_once.1

-- of no words at all none is
once-none : IsSaidOnce (λ word. false)
once-none seen stage sights = few (words seen stage sights)
  where
    few : (said : List (Option Seen)) → length (filter (λ word. false) said) ≤ 1
    few [] = omega arith
    few (word ∷ said) = few said

-- of both kinds together two are said, if the input ends and a signal comes; so are two silences, at two looks
once_not-both : ¬ IsSaidOnce (λ word. not (is_none word))
unfolding quiet interrupt
once_not-both once =
    let two : 2 ≤ 1 = once no_signals Running (record quiet { has_input_ended = true } ∷ record quiet { signals = interrupt } ∷ []) in
    omega (arith, two)

once_not-silent : ¬ IsSaidOnce is_none
unfolding quiet
once_not-silent once =
    let two : 2 ≤ 1 = once no_signals Running (quiet ∷ quiet ∷ []) in
    omega (arith, two)
