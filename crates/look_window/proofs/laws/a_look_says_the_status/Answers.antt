use Rattle.look_window.proofs.Saying.{says}
use Rattle.look_window.proofs.laws.a_look_says_the_status.Goals as goal

pub returns : goal.returns
returns c = says c.nodes_write_their_lines.ensures
