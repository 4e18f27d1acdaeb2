use Rattle.std.proofs.Common.{ℕ, ◌<◌, IsTrue}
use Rattle.run_film.specs.Places.{is_clear_of, place_in}
use Rattle.run_film.proofs.tickets.is_clear_of_nodes.Given as goal

-- the words keep clear of the first nodes
abbrev pub invariant-loop-v : goal.invariant-loop-v
invariant-loop-v l = (v : ℕ) → v < l.v → IsTrue (is_clear_of (place_in l.stage v) l.at l.half.0)
