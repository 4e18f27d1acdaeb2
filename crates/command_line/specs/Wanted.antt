-- The picture that the words of `draw` ask for.
use Rattle.std.specs.Prelude.{◌≡◌, ◌≤◌, ◌<◌, ◌⊎◌, ℕ, codes}
use Rattle.clap.specs.declared.parser.matches.Found.{Found}
use Rattle.command_grammar.specs.Given.{IsFlag, IsGivenOr, IsRefused}
use Rattle.command_words.specs.declared.refusal.Refusal.{Refusal}
use Rattle.command_words.specs.declared.refusal.Refusal.TheVariants.{Word, Window, Kind, Schedule, NoCommand, Fault, Time, Limit, NoWords}
use Rattle.run_film.specs.declared.text.WantedFilm.{WantedFilm}
use Rattle.run_picture.specs.declared.command.Wanted.{Wanted}
use Rattle.run_picture.specs.run_recording.declared.window.Window.{Window as Moments}

-- the greatest number of sweeps
abbrev pub last_sweep : ℕ
last_sweep = 18446744073709551615

-- the sweeps of `--from` and `--to`, by default 0 and the greatest
abbrev pub AreEndsOf : Found → ℕ → ℕ → Type 0
AreEndsOf found from to = IsGivenOr found (codes "from") 0 last_sweep 0 from × IsGivenOr found (codes "to") 0 last_sweep last_sweep to

-- the window between them; it must not end before it begins
abbrev pub IsWindowOf : Found → Moments → Type 0
IsWindowOf found window = AreEndsOf found window.from window.to × (window.from ≤ window.to)

-- one of the two numbers is invalid, or the window ends before it begins
abbrev pub IsWindowRefused : Found → Refusal → Type 0
IsWindowRefused found (Word fault) = IsRefused found (codes "from") 0 last_sweep fault ⊎ IsRefused found (codes "to") 0 last_sweep fault
IsWindowRefused found Window = (from to : ℕ) × AreEndsOf found from to × (to < from)
IsWindowRefused found (Time fault) = ⊥
IsWindowRefused found Limit = ⊥
IsWindowRefused found NoWords = ⊥
IsWindowRefused found (Kind fault) = ⊥
IsWindowRefused found (Schedule fault) = ⊥
IsWindowRefused found NoCommand = ⊥
IsWindowRefused found (Fault fault) = ⊥

-- the number of columns is invalid
abbrev pub AreColumnsRefused : Found → Refusal → Type 0
AreColumnsRefused found (Word fault) = IsRefused found (codes "columns") 1 1200 fault
AreColumnsRefused found _ = ⊥

-- that window, the columns of `--columns`, by default 1200, and what has settled if `--layers` is given
abbrev pub IsWantedOf : Found → Wanted → Type 0
IsWantedOf found wanted =
    IsWindowOf found wanted.window × IsGivenOr found (codes "columns") 1 1200 1200 wanted.columns × IsFlag found (codes "layers") wanted.layers

-- the window or the columns are invalid
abbrev pub IsWantedRefused : Found → Refusal → Type 0
IsWantedRefused found refusal = IsWindowRefused found refusal ⊎ AreColumnsRefused found refusal

-- the number of seconds is invalid
abbrev pub AreSecondsRefused : Found → Refusal → Type 0
AreSecondsRefused found (Word fault) = IsRefused found (codes "seconds") 2 600 fault
AreSecondsRefused found _ = ⊥

-- that window, the seconds of `--seconds`, by default 20, and a page if `--page` is given
abbrev pub IsFilmOf : Found → WantedFilm → Type 0
IsFilmOf found wanted =
    IsWindowOf found wanted.window × IsGivenOr found (codes "seconds") 2 600 20 wanted.seconds × IsFlag found (codes "page") wanted.page

-- the window or the seconds are invalid
abbrev pub IsFilmRefused : Found → Refusal → Type 0
IsFilmRefused found refusal = IsWindowRefused found refusal ⊎ AreSecondsRefused found refusal
