use Rattle.std.proofs.Common.{◌≡◌}
use Rattle.lock_command.proofs.desk.DeskConnection.hear.Given as goal

abbrev pub invariant-loop : goal.invariant-loop
invariant-loop l = l.self.node ≡ l.fn.self.node
