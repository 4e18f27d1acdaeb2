use Rattle.std.proofs.Common.{ℕ, ◌<◌}
use Rattle.run_film.specs.declared.track.Track.TheVariants.{Parent}
use Rattle.run_film.specs.Beats.{film_of}
use Rattle.run_film.specs.Films.{drawn, IsPlayed, ShowsNode}
use Rattle.run_film.specs.Tracks.{track_shown}
use Rattle.run_film.proofs.Films.{Grows}
use Rattle.run_film.proofs.nodes.put_nodes.Given as goal

-- the arrows of the first nodes are drawn
abbrev pub invariant-loop-v : goal.invariant-loop-v
invariant-loop-v l =
    Grows (λ gs u. IsPlayed gs (track_shown (Parent u) (film_of l.material.shown)))
    (drawn l.fn.groups.items) (drawn l.groups.items) l.v

-- those of all are, and the first nodes
abbrev pub invariant-loop-v-2 : goal.invariant-loop-v-2
invariant-loop-v-2 l =
    ((u : ℕ) → u < l.material.net.now.nodes → IsPlayed (drawn l.groups.items) (track_shown (Parent u) (film_of l.material.shown)))
    × Grows (λ gs u. ShowsNode gs (film_of l.material.shown) u) (drawn l.fn.groups.items) (drawn l.groups.items) l.v
