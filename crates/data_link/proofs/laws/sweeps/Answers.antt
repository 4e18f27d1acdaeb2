use Rattle.data_link.proofs.Strict.{strict-sweep}
use Rattle.data_link.proofs.Sweeping.{two-sweeps-move, sweeps-move}
use Rattle.data_link.proofs.laws.sweeps.Goals as goal

pub returns : goal.returns
returns c = record { strict = strict-sweep; two_move = two-sweeps-move; moves = sweeps-move }
