use Rattle.data_link.proofs.LinkSteps.{event-step}
use Rattle.data_link.proofs.EdgeRanges.{range-event}
use Rattle.data_link.proofs.laws.events.Goals as goal

pub returns-clause-ring : goal.returns-clause-ring
returns-clause-ring c = event-step

pub returns-clause-range : goal.returns-clause-range
returns-clause-range c = range-event
