use Rattle.topology.proofs.Reached.{each_distance}
use Rattle.topology.proofs.Parents.{joined_distances}
use Rattle.topology.proofs.laws.distances.Goals as goal

pub returns-clause-each : goal.returns-clause-each
returns-clause-each c = each_distance

pub returns-clause-joined : goal.returns-clause-joined
returns-clause-joined c = joined_distances
