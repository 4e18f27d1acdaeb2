use Rattle.byte_lines.proofs.Cutting.{are_cut}
use Rattle.byte_lines.proofs.laws.any_cutting.Goals as goal

pub returns : goal.returns
returns c = are_cut
