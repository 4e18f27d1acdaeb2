use Rattle.std.proofs.Common.{◌≡◌, take}
use Rattle.std.specs.Vec.{vec_capacity}
use Rattle.registers.proofs.registers.write_ids.Given as goal

abbrev pub invariant-loop-id : goal.invariant-loop-id
invariant-loop-id g l = (l.list.items ≡ take l.id-index l.ids) × (vec_capacity l.list ≡ vec_capacity l.fn.list)
