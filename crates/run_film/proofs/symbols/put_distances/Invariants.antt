use Rattle.std.proofs.Common.{◌++◌, codes, decimal}
use Rattle.run_film.specs.Films.{drawn}
use Rattle.run_film.specs.Symbols.{IsDefined}
use Rattle.run_film.proofs.Films.{Grows}
use Rattle.run_film.proofs.symbols.put_distances.Given as goal

-- the first distances have their symbols
abbrev pub invariant-loop-distance : goal.invariant-loop-distance
invariant-loop-distance l =
    Grows (λ gs d. IsDefined gs (codes "d" ++ decimal d))
    (drawn l.fn.groups.items) (drawn l.groups.items) l.distance
