-- Which part of the records the words of `gather` ask for.
use Rattle.std.specs.Prelude.{◌⊎◌, None, Some, codes}
use Rattle.clap.specs.declared.parser.matches.Found.{Found}
use Rattle.command_grammar.specs.Given.{IsGiven, IsRefused}
use Rattle.command_grammar.specs.declared.words.WordFault.{WordFault}
use Rattle.gather_command.specs.declared.stretch.TimeStretch.{TimeStretch}
use Rattle.gather_command.specs.declared.stretch.TimeStretch.TheVariants.{From, Last, Whole}

-- the seconds of `--from`, or without it those of `--last`; all if neither is given
abbrev pub IsStretchOf : Found → TimeStretch → Type 0
IsStretchOf found (From seconds) = IsGiven found (codes "from") 0 4294967295 (Some seconds)
IsStretchOf found (Last seconds) =
    IsGiven found (codes "from") 0 4294967295 None × IsGiven found (codes "last") 0 4294967295 (Some seconds)
IsStretchOf found Whole =
    IsGiven found (codes "from") 0 4294967295 None × IsGiven found (codes "last") 0 4294967295 None

-- one of the numbers is invalid
abbrev pub IsStretchRefused : Found → WordFault → Type 0
IsStretchRefused found fault =
    IsRefused found (codes "from") 0 4294967295 fault ⊎ IsRefused found (codes "last") 0 4294967295 fault
