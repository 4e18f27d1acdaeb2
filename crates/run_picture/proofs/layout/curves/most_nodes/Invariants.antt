use Rattle.std.proofs.Common.{◌≡◌, take}
use Rattle.run_picture.specs.Curves.{most_nodes}
use Rattle.run_picture.proofs.layout.curves.most_nodes.Given as goal

-- the most in the first columns
abbrev pub invariant-loop-column : goal.invariant-loop-column
invariant-loop-column l = l.most ≡ most_nodes (take l.column-index l.columns)
