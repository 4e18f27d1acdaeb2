use Rattle.std.proofs.Common.{take}
use Rattle.settling_plot.specs.Tallies.{IsTally}
use Rattle.settling_plot.proofs.tally.tally.Given as goal

-- the first numbers are counted
abbrev pub invariant-loop-number : goal.invariant-loop-number
invariant-loop-number l = IsTally (take l.number-index l.numbers) l.last l.tally.items
