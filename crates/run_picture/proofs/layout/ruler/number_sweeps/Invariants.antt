use Rattle.std.proofs.Common.{◌≡◌, ◌++◌, map, take}
use Rattle.svg_drawing.specs.Drawn.{drawn}
use Rattle.run_picture.specs.Ruler.{sweeps_shown}
use Rattle.run_picture.proofs.layout.ruler.number_sweeps.Given as goal

-- the first numbers are added
abbrev pub invariant-loop-number : goal.invariant-loop-number
invariant-loop-number l = drawn l.canvas ≡ drawn l.fn.canvas ++ map (sweeps_shown l.page) (take l.number-index l.numbers)
