-- Which still a film shows at each beat.
use Rattle.std.specs.List.{list_any}
use Rattle.topology.specs.Network.{are_joined}
use Rattle.std.specs.Prelude.{Bool, ◌||◌, ℕ, ◌+◌, ◌/◌, ◌%◌, ◌==◌, nat_lt, if◌then◌else◌, List, [], ◌∷◌, ◌++◌, length, replicate}
use Rattle.run_recording.specs.declared.still.Still.{Still}
use Rattle.run_film.specs.declared.pace.FilmPace.{FilmPace}
use Rattle.run_film.specs.declared.pace.Shown.{Shown}

-- the stills that a film shows: the first, the others, and how many beats there are for them
pub record Film : Type 0 where
  pub opening : Still
  pub later : List Still
  pub pace : FilmPace

-- the film that the code shows
abbrev pub film_of : Shown → Film
film_of shown = record { opening = shown.opening.now; later = shown.later.now; pace = shown.pace }

-- for how many beats the still at a place is shown, where 0 is the first: the beats in equal parts,
-- with one more for the first stills if the parts do not come out even; ten more for the first
-- still, and for the last one those that hold it
abbrev pub beats_at : Film → ℕ → ℕ
beats_at film place =
    (film.pace.beats / (length film.later + 1)
    + (if nat_lt place (film.pace.beats % (length film.later + 1)) then 1 else 0))
    + ((if place == 0 then 10 else 0) + (if place == length film.later then film.pace.closing else 0))

-- the stills from a place on, each as often as it has beats
abbrev pub later_beats : Film → ℕ → List Still → List Still
later_beats film place [] = []
later_beats film place (still ∷ stills) = replicate (beats_at film place) still ++ later_beats film (place + 1) stills

-- the still of each beat of the film
abbrev pub beats_of : Film → List Still
beats_of film = replicate (beats_at film 0) film.opening ++ later_beats film 1 film.later

-- an edge joins two nodes in some still of a film
abbrev pub joins_in : Film → ℕ → ℕ → Bool
joins_in film v w = are_joined film.opening.edges v w || list_any (λ still. are_joined still.edges v w) film.later

-- the last of some stills, or this one if there are none
abbrev pub last_or : Still → List Still → Still
last_or still [] = still
last_or still (next ∷ stills) = last_or next stills

-- the last still
abbrev pub last_of : Film → Still
last_of film = last_or film.opening film.later
