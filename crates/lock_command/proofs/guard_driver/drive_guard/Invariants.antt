use Rattle.std.proofs.Common.{◌≡◌}
use Rattle.lock_command.proofs.GuardDriven.{IsOnGuard}
use Rattle.lock_command.proofs.guard_driver.drive_guard.Given as goal

abbrev pub invariant-loop : goal.invariant-loop
invariant-loop g l =
    (goal.iterator-loop g).can_next l.iterator' × (goal.iterator-loop g).is_finite l.iterator'
    × (l.guard.keeps_running ≡ l.fn.keeps_running)
    × IsOnGuard l.fn.keeps_running (g.S.Guarded.reported l.fn.guarded) (g.S.Guarded.reported l.guarded) l.guard.stage
