use Rattle.std.proofs.Common.{◌≡◌, ◌++◌, take}
use Rattle.record_gathering.specs.Facts.{lacking}
use Rattle.record_gathering.proofs.facts.add_lacking.Given as goal

abbrev pub invariant-loop-edge : goal.invariant-loop-edge
invariant-loop-edge g l = l.facts.items ≡ l.fn.facts.items ++ lacking l.joins l.net (take l.edge-index l.edges)
