use Rattle.std.proofs.Common.{◌≡◌, ◌++◌, replicate, string_bytes}
use Rattle.run_film.specs.Tracks.{more_values}
use Rattle.run_film.proofs.track.Track.push_beats.Given as goal

-- the values of the first beats are added
abbrev pub invariant-loop : goal.invariant-loop
invariant-loop l = string_bytes l.text ≡ string_bytes l.fn.text ++ more_values l.self (replicate l.counter l.still)
