use Rattle.std.proofs.Common.{◌≡◌, false}
use Rattle.lock_command.proofs.Drives.{IsUnderWay, RunsAt}
use Rattle.lock_command.proofs.driver.drive.Given as goal

abbrev pub invariant-loop : goal.invariant-loop
invariant-loop g l =
    (goal.iterator-loop g).can_next l.iterator' × (goal.iterator-loop g).is_finite l.iterator'
    × (l.client.keeps_running ≡ l.fn.keeps_running)
    × IsUnderWay l.fn.keeps_running (g.S.Surroundings.reported l.fn.surroundings) (g.S.Surroundings.reported l.surroundings) l.client.stage
    × (g.S.Surroundings.runs l.fn.surroundings ≡ false → RunsAt (g.S.Surroundings.runs l.surroundings) l.client.stage)
