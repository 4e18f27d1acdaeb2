use Rattle.look_window.proofs.Counting.{counted}
use Rattle.look_window.proofs.laws.a_move_is_counted.Goals as goal

pub returns : goal.returns
returns c = counted
