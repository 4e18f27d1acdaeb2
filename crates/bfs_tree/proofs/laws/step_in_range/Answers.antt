use Rattle.bfs_tree.proofs.StepRange.{distance-fits, parent-fits}
use Rattle.bfs_tree.proofs.laws.step_in_range.Goals as goal

pub returns-clause-distance : goal.returns-clause-distance
returns-clause-distance c = distance-fits

pub returns-clause-parent : goal.returns-clause-parent
returns-clause-parent c = parent-fits
