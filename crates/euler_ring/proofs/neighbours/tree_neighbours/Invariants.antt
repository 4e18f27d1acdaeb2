use Rattle.std.proofs.Common.{◌≡◌, ℕ, Option, Contains, take}
use Rattle.euler_ring.specs.Cycle.{is_tree_neighbour}
use Rattle.euler_ring.proofs.Growing.{HasPassed, AreAmong}
use Rattle.euler_ring.proofs.neighbours.tree_neighbours.Given as goal

-- by any reading of the copies that the closure keeps to, the bits are the tree neighbours so far
abbrev pub invariant-loop-neighbour : goal.invariant-loop-neighbour
invariant-loop-neighbour g l = record {
  passed : (copied : ℕ → Option ℕ) → ((w : ℕ) (p : Option ℕ) → Contains l.fn.neighbours w → goal.F-post g l.fn.copied_parent w p → p ≡ copied w)
      → HasPassed l.ids (is_tree_neighbour l.parent l.id copied) (take l.neighbour-index l.neighbours);
  among : AreAmong l.ids l.neighbours;
}
