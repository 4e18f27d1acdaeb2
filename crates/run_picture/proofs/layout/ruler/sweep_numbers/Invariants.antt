use Rattle.std.proofs.Common.{◌≡◌, take}
use Rattle.run_picture.specs.Ruler.{ended_in, AreNumbers}
use Rattle.run_picture.proofs.layout.ruler.sweep_numbers.Given as goal

-- the numbers over the columns so far
abbrev pub invariant-loop-place : goal.invariant-loop-place
invariant-loop-place l =
    (l.ended ≡ ended_in l.before (take l.place l.columns)) × AreNumbers l.page l.before l.columns l.place l.numbers.items
