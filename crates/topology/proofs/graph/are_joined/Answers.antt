use Rattle.std.proofs.Common.{◌∙◌}
use Rattle.topology.proofs.Changed.{joined_if_placed}
use Rattle.topology.proofs.graph.are_joined.Goals as goal

pub returns : goal.returns
returns c = c.is_some.ensures ∙ joined_if_placed c.args.edges.now c.args.v c.args.w c.place_of_edge.result c.place_of_edge.ensures
