use Rattle.euler_ring.proofs.Ascending.{from_increasing, next_on, source_on}
use Rattle.euler_ring.proofs.Circle.{source_of_next, next_of_source}
use Rattle.euler_ring.proofs.laws.round_a_node.Goals as goal

pub returns-clause-source_of_next : goal.returns-clause-source_of_next
returns-clause-source_of_next c = λ ts t h on. source_of_next ts t (from_increasing ts h) on

pub returns-clause-next_of_source : goal.returns-clause-next_of_source
returns-clause-next_of_source c = λ ts w h on. next_of_source ts w (from_increasing ts h) on

pub returns-clause-next_on : goal.returns-clause-next_on
returns-clause-next_on c = next_on

pub returns-clause-source_on : goal.returns-clause-source_on
returns-clause-source_on c = source_on
