use Rattle.topology.proofs.Joined.{neighbours_are_joined, neighbours_ascend}
use Rattle.topology.proofs.laws.neighbours.Goals as goal

pub returns : goal.returns
returns c = record { joined = neighbours_are_joined; ascend = neighbours_ascend }
