-- What is shown of readings, and where.
use Rattle.std.specs.Prelude.{◌≡◌, ℕ, Bool, true, false, List, Option, None, Some}
use Rattle.status_readings.specs.declared.answers.NodeAnswer.{NodeAnswer}
use Rattle.status_readings.specs.Report.{report_text}
use Rattle.status_readings.specs.declared.minute.NodeLoans.{NodeLoans}
use Rattle.status_readings.specs.declared.minute.Sample.{Sample}
use Rattle.status_readings.specs.JsonData.{IsStatusLine}
use Rattle.status_readings.specs.Minute.{sample_of, with_sample}
use Rattle.status_command.specs.declared.status.AnswerForm.{AnswerForm}
use Rattle.status_command.specs.declared.status.AnswerForm.TheVariants as form
use Rattle.status_command.specs.declared.screen.Screen.{Screen}
use Rattle.status_command.specs.declared.screen.Screen.TheVariants.{Terminal, Blocks}

-- the answers as lines, or as JSON on one line
abbrev pub IsTextOf : AnswerForm → List NodeAnswer → List ℕ → Type 0
IsTextOf form.Lines answers text = text ≡ report_text answers
IsTextOf form.Json answers text = IsStatusLine answers text

abbrev pub with_some : Option Sample → List Sample → List Sample
with_some None samples = samples
with_some (Some sample) samples = with_sample sample samples

-- what is kept of the last minute after a reading: the same as before if a node did not say its
-- loans
abbrev pub minute_after : ℕ → List NodeLoans → List Sample → List Sample
minute_after at loans samples = with_some (sample_of at loans) samples

-- after a block, a screen of blocks remembers that one was shown; no other screen changes
abbrev pub after_block : Screen → Screen
after_block (Blocks has_shown) = Blocks true
after_block screen = screen

-- each picture is shown over the one before
abbrev pub is_in_place : Screen → Bool
is_in_place (Terminal settings) = true
is_in_place _ = false
