-- The plan, by the words of `measure`.
use Rattle.std.specs.Prelude.{◌≡◌, ◌⊎◌, Bool, Some, codes}
use Rattle.clap.specs.declared.parser.matches.Found.{Found}
use Rattle.command_grammar.specs.Given.{IsGiven, IsFlag, IsRefused}
use Rattle.subcommands.specs.declared.measure.MeasurePlan.{MeasurePlan}
use Rattle.command_line.specs.Scheduling.{IsSchedulerOf, IsSchedulerRefused}
use Rattle.command_words.specs.declared.refusal.Refusal.{Refusal}
use Rattle.command_words.specs.declared.refusal.Refusal.TheVariants.{Word}

-- the numbers of `--runs` and `--seed`, or their defaults; the order of the events; a table with
-- `--table`
abbrev pub IsPlanOf : Found → Bool → MeasurePlan → Type 0
IsPlanOf found progress plan =
    IsGiven found (codes "runs") 1 1000000 (Some plan.runs)
    × IsGiven found (codes "seed") 0 4294967295 (Some plan.seed)
    × IsSchedulerOf found plan.scheduler
    × IsFlag found (codes "table") plan.table
    × (plan.progress ≡ progress)

-- one of the numbers is invalid
abbrev pub AreNumbersRefused : Found → Refusal → Type 0
AreNumbersRefused found (Word fault) =
    IsRefused found (codes "runs") 1 1000000 fault ⊎ IsRefused found (codes "seed") 0 4294967295 fault
AreNumbersRefused found _ = ⊥

-- one of the numbers, or the order of the events, is invalid
abbrev pub IsPlanRefused : Found → Refusal → Type 0
IsPlanRefused found refusal = AreNumbersRefused found refusal ⊎ IsSchedulerRefused found refusal
