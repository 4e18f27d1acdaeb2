-- The plan that the words of `worst` ask for.
use Rattle.std.specs.Prelude.{◌≡◌, ◌⊎◌, Bool, None, Some, codes}
use Rattle.clap.specs.declared.parser.matches.Found.{Found}
use Rattle.command_grammar.specs.Given.{IsGiven, IsRefused}
use Rattle.command_grammar.specs.declared.words.WordFault.{WordFault}
use Rattle.subcommands.specs.declared.worst.Extent.{Extent}
use Rattle.subcommands.specs.declared.worst.Extent.TheVariants.{Searches, Minutes}
use Rattle.subcommands.specs.declared.worst.SearchPlan.{SearchPlan}

-- the minutes of `--minutes`; without it, the number of `--searches`, which has a default
abbrev pub IsExtentOf : Found → Extent → Type 0
IsExtentOf found (Minutes minutes) = IsGiven found (codes "minutes") 1 10080 (Some minutes)
IsExtentOf found (Searches searches) =
    IsGiven found (codes "minutes") 1 10080 None × IsGiven found (codes "searches") 1 1000000 (Some searches)

-- how long it searches, and the numbers of `--seed` and `--steps`, which have defaults
abbrev pub IsSearchOf : Found → Bool → SearchPlan → Type 0
IsSearchOf found progress plan =
    IsExtentOf found plan.extent
    × IsGiven found (codes "seed") 0 4294967295 (Some plan.seed)
    × IsGiven found (codes "steps") 0 1000000000 (Some plan.steps)
    × (plan.progress ≡ progress)

-- the number of minutes or of searches is invalid
abbrev pub IsExtentRefused : Found → WordFault → Type 0
IsExtentRefused found fault =
    IsRefused found (codes "minutes") 1 10080 fault ⊎ IsRefused found (codes "searches") 1 1000000 fault

-- one of the numbers is invalid
abbrev pub IsSearchRefused : Found → WordFault → Type 0
IsSearchRefused found fault =
    IsExtentRefused found fault ⊎ IsRefused found (codes "seed") 0 4294967295 fault
    ⊎ IsRefused found (codes "steps") 0 1000000000 fault
