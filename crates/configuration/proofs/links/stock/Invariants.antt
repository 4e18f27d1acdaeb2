use Rattle.std.proofs.Common.{◌+◌, ◌≤◌}
use Rattle.std.specs.Vec.{vec_capacity}
use Rattle.configuration.specs.Placed.{AreStocked}
use Rattle.configuration.proofs.links.stock.Given as goal

-- `place` links are made so far, all of them spare, and there is room for the places of the others
abbrev pub invariant-loop-place : goal.invariant-loop-place
invariant-loop-place g l = AreStocked l.fn.capacity l.place l.links.items l.spares.items × (l.fn.count + 1 ≤ vec_capacity l.spares) × (l.place ≤ l.fn.count)
