use Rattle.std.proofs.Common.{◌≡◌, true}
use Rattle.lock_command.specs.Coming.{Stays}
use Rattle.lock_command.specs.Working.{is_running}
use Rattle.lock_command.proofs.session.Session.wait_for_event.Given as goal

abbrev pub invariant-loop : goal.invariant-loop
invariant-loop g l =
    (goal.iterator-loop g).can_next l.iterator' × (goal.iterator-loop g).is_finite l.iterator'
    × (is_running l.self.work ≡ true → is_running l.fn.self.work ≡ true) × Stays l.fn.self l.self
