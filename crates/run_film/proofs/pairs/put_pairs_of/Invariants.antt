use Rattle.std.proofs.Common.{IsTrue}
use Rattle.run_film.specs.Beats.{film_of}
use Rattle.run_film.specs.Films.{drawn}
use Rattle.run_film.specs.Pairs.{is_seen, ShowsPaired}
use Rattle.run_film.proofs.Films.{Grows}
use Rattle.run_film.proofs.pairs.put_pairs_of.Given as goal

-- this is shown for the node and the first others
abbrev pub invariant-loop-w : goal.invariant-loop-w
invariant-loop-w l =
    let film = film_of l.material.shown in
    Grows (λ gs u. IsTrue (is_seen l.paired film l.v u) → ShowsPaired l.paired gs film l.v u) (drawn l.fn.groups.items) (drawn l.groups.items) l.w
