use Rattle.std.proofs.Common.{ℕ, ◌<◌, IsTrue}
use Rattle.run_film.specs.Beats.{film_of}
use Rattle.run_film.specs.Films.{drawn}
use Rattle.run_film.specs.Pairs.{is_seen, ShowsPaired}
use Rattle.run_film.proofs.Films.{Grows}
use Rattle.run_film.proofs.pairs.put_pairs.Given as goal

-- this is shown for the first nodes and each other
abbrev pub invariant-loop-v : goal.invariant-loop-v
invariant-loop-v l =
    let film = film_of l.material.shown in
    Grows (λ gs u. (w : ℕ) → w < l.material.net.now.nodes → IsTrue (is_seen l.paired film u w) → ShowsPaired l.paired gs film u w)
    (drawn l.fn.groups.items) (drawn l.groups.items) l.v
