use Rattle.std.proofs.Common.{◌≡◌, ◌++◌, take, string_bytes}
use Rattle.run_film.specs.Beats.{film_of, later_beats}
use Rattle.run_film.specs.Tracks.{more_values}
use Rattle.run_film.proofs.track.Track.push_later.Given as goal

-- the values of the first stills are added
abbrev pub invariant-loop-place : goal.invariant-loop-place
invariant-loop-place l =
    string_bytes l.text ≡ string_bytes l.fn.text ++ more_values l.self (later_beats (film_of l.shown) 1 (take l.place l.shown.later.now))
