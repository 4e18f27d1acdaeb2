use Rattle.std.proofs.Common.{◌≡◌, ◌+◌, length}
use Rattle.process_parts.proofs.folder.push_addresses.Given as goal

abbrev pub invariant-loop-id : goal.invariant-loop-id
invariant-loop-id l = length l.addresses.items ≡ length l.initial.addresses.items + l.id
