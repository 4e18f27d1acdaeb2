use Rattle.std.proofs.Common.{◌≡◌, ℕ, ◌<◌, ◌+◌, ◌*◌, length, slice_index_or}
use Rattle.topology.specs.Tree.{distance_of}
use Rattle.run_film.specs.Places.{root_place}
use Rattle.run_film.proofs.stage.rows_of.Given as goal

-- the first nodes stand in their rows
abbrev pub invariant-loop-v : goal.invariant-loop-v
invariant-loop-v l =
    ((u : ℕ) → u < l.v → (slice_index_or l.places u root_place).y.0 ≡ 136 + l.rise.0 * distance_of l.net u)
    × ((u : ℕ) → u < l.v → (slice_index_or l.places u root_place).y.0 < 10000000)
    × (length l.places ≡ 64)
