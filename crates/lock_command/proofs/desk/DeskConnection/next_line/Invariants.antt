use Rattle.std.proofs.Common.{◌≡◌}
use Rattle.lock_command.proofs.desk.DeskConnection.next_line.Given as goal

abbrev pub invariant-loop-at : goal.invariant-loop-at
invariant-loop-at l = l.self.node ≡ l.fn.self.node
