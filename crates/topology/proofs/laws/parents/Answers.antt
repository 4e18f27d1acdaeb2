use Rattle.topology.proofs.Parents.{each_nearer, each_parent, one_parent, no_root_parent}
use Rattle.topology.proofs.laws.parents.Goals as goal

pub returns : goal.returns
returns c = record { nearer = each_nearer; each = each_parent; one = one_parent; root = no_root_parent }
