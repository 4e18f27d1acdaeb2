use Rattle.std.proofs.Common.{◌≡◌, take}
use Rattle.gather_command.specs.Damage.{with_fields}
use Rattle.gather_command.proofs.damage.Damage.add.Given as goal

abbrev pub invariant-loop-field : goal.invariant-loop-field
invariant-loop-field l = l.self ≡ with_fields l.fn.self l.node l.instant (take l.field-index l.fields)
