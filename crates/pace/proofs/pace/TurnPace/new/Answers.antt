use Rattle.pace.proofs.Going.{all_fresh}
use Rattle.pace.proofs.pace.TurnPace.new.Goals as goal

pub returns-clause-ports : goal.returns-clause-ports
returns-clause-ports c = λ p. rw c.fresh_ports.ensures (all_fresh p)
