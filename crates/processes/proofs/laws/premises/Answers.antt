use Rattle.processes.proofs.FullTicks.{turns-tick-fully, premises-give-windows, recovers-in-time, waits-in-time}
use Rattle.processes.proofs.laws.premises.Goals as goal

pub returns-clause-full : goal.returns-clause-full
returns-clause-full c = turns-tick-fully

pub returns-clause-windows : goal.returns-clause-windows
returns-clause-windows c = premises-give-windows c.joined.ensures.nodes

pub returns-clause-recovers : goal.returns-clause-recovers
returns-clause-recovers c = recovers-in-time (premises-give-windows c.joined.ensures.nodes) c.windows.ensures.serves

pub returns-clause-lends : goal.returns-clause-lends
returns-clause-lends c = waits-in-time (premises-give-windows c.joined.ensures.nodes) c.windows.ensures.lends
