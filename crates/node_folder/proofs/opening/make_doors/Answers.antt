use Rattle.std.proofs.Common.{arith}
use Rattle.node_folder.proofs.opening.make_doors.Goals as goal

pub returns-in-Err : goal.returns-in-Err
returns-in-Err g c = grind (arith, c.fault_of.ensures)
