use Rattle.data_link.proofs.PortRange.{port-stays_in_range}
use Rattle.data_link.proofs.laws.ports.Goals as goal

pub returns : goal.returns
returns c = port-stays_in_range
