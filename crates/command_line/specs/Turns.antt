-- The turns, by the words of `schedule`.
use Rattle.std.specs.Prelude.{◌≡◌, ◌⊎◌, Some, None, codes}
use Rattle.clap.specs.Matches.{first_value}
use Rattle.clap.specs.declared.parser.matches.Found.{Found}
use Rattle.command_grammar.specs.Given.{IsGiven, IsGivenOr, IsFlag, IsRefused}
use Rattle.command_grammar.specs.declared.words.WordFault.{WordFault}
use Rattle.subcommands.specs.declared.schedule.Turns.{Turns}
use Rattle.subcommands.specs.declared.schedule.Turns.TheVariants.{Rounds, Random}

-- with `--rounds`, that many rounds; else as many steps as `--random` says, drawn from `--seed`,
-- with `--loss` percent of the takes lost, by default 0, and with moves of clients if `--clients`
-- is given
abbrev pub AreTurnsOf : Found → Turns → Type 0
AreTurnsOf found (Rounds count) = IsGiven found (codes "rounds") 0 4294967295 (Some count)
AreTurnsOf found (Random steps seed chances) =
    (first_value found (codes "rounds") ≡ None)
    × IsGiven found (codes "random") 0 4294967295 (Some steps)
    × IsGiven found (codes "seed") 0 4294967295 (Some seed)
    × IsGivenOr found (codes "loss") 0 100 0 chances.loss
    × IsFlag found (codes "clients") chances.clients

-- one of the numbers is invalid
abbrev pub AreTurnsRefused : Found → WordFault → Type 0
AreTurnsRefused found fault =
    IsRefused found (codes "rounds") 0 4294967295 fault
    ⊎ (IsRefused found (codes "loss") 0 100 fault
    ⊎ (IsRefused found (codes "random") 0 4294967295 fault
    ⊎ IsRefused found (codes "seed") 0 4294967295 fault))
