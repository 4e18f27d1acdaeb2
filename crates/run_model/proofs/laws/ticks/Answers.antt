use Rattle.run_model.proofs.NodeEvents.{quiet-or-ticks, tick-ticks}
use Rattle.run_model.proofs.laws.ticks.Goals as goal

pub returns-clause-moves : goal.returns-clause-moves
returns-clause-moves c = quiet-or-ticks c.only_ticks_lend.ensures

pub returns-clause-accepted : goal.returns-clause-accepted
returns-clause-accepted c = tick-ticks
