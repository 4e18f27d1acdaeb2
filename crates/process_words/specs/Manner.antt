-- The manner of a node, by the words of `node` and `up`, and the time after which a turn is late.
use Rattle.std.specs.Prelude.{◌≡◌, ◌<◌, ◌⊎◌, ℕ, List, Some, None, codes}
use Rattle.clap.specs.Matches.{first_value}
use Rattle.clap.specs.declared.parser.matches.Found.{Found}
use Rattle.recovery_times.specs.Reading.{micros_of}
use Rattle.recovery_times.specs.declared.words.TimeFault.{TimeFault}
use Rattle.recovery_times.specs.declared.words.TimeFault.TheVariants.{Turn}
use Rattle.command_grammar.specs.Given.{IsGivenOr, IsRefused}
use Rattle.command_grammar.specs.declared.words.WordFault.{WordFault}
use Rattle.pace.specs.declared.pace.Manner.{Manner}

-- `--hold` is 0 to 2000 microseconds, by default 2000; `--repeat` is 0 to 100000, by default 8000
abbrev pub IsMannerOf : Found → Manner → Type 0
IsMannerOf found manner =
    IsGivenOr found (codes "hold") 0 2000 2000 manner.hold × IsGivenOr found (codes "repeat") 0 100000 8000 manner.repeat

-- one of the two is invalid
abbrev pub IsMannerRefused : Found → WordFault → Type 0
IsMannerRefused found fault = IsRefused found (codes "hold") 0 2000 fault ⊎ IsRefused found (codes "repeat") 0 100000 fault

-- `--turn` spells a time from 1 microsecond to an hour, in milliseconds; by default 2200
-- microseconds
abbrev pub IsLimitOf : Found → ℕ → Type 0
IsLimitOf found limit =
    ((word : List ℕ) × (first_value found (codes "turn") ≡ Some word) × (micros_of word ≡ Some limit) × (0 < limit))
    ⊎ ((first_value found (codes "turn") ≡ None) × (limit ≡ 2200))

-- the word of `--turn` spells no such time
abbrev pub IsLimitRefused : Found → TimeFault → Type 0
IsLimitRefused found fault =
    (fault ≡ Turn)
    × ((word : List ℕ) × (first_value found (codes "turn") ≡ Some word)
    × ((limit : ℕ) → micros_of word ≡ Some limit → limit ≡ 0))
