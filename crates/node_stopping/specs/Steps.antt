-- What is done next with a node that is to end.
use Rattle.std.specs.Prelude.{Bool, true, false}
use Rattle.node_stopping.specs.declared.lines.Ending.TheVariants as ending
use Rattle.node_stopping.specs.declared.steps.LockSight.{LockSight}
use Rattle.node_stopping.specs.declared.steps.LockSight.TheVariants.{Free, Held, Hidden}
use Rattle.node_stopping.specs.declared.steps.StopStep.{StopStep}
use Rattle.node_stopping.specs.declared.steps.StopStep.TheVariants.{Ask, Wait, Done}

-- a node that runs is asked once, and then waited for until the time is over; one that does not run has ended if it was
-- asked, and else did not run; one whose lock file cannot be seen is done with at once
abbrev pub next : LockSight → Bool → Bool → StopStep
next Hidden was_asked is_late = Done ending.Hidden
next Free true is_late = Done ending.Ended
next Free false is_late = Done ending.NotRunning
next Held false is_late = Ask
next Held true true = Done ending.Late
next Held true false = Wait
