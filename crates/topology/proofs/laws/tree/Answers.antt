use Rattle.topology.proofs.Parents.{distance_is_one, parent_is_one, is_tree}
use Rattle.topology.proofs.laws.tree.Goals as goal

pub returns : goal.returns
returns c = record { distance = distance_is_one; parent = parent_is_one; known = is_tree }
