use Rattle.look_window.proofs.NodeLines.{node-writes}
use Rattle.look_window.proofs.laws.nodes_write_their_lines.Goals as goal

pub returns : goal.returns
returns c = node-writes
