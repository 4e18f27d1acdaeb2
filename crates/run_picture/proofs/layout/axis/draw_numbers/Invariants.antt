use Rattle.std.proofs.Common.{◌≡◌, ◌++◌, take}
use Rattle.std.specs.List.{flat_map}
use Rattle.run_picture.specs.Axis.{number_shown}
use Rattle.svg_drawing.specs.Drawn.{drawn}
use Rattle.run_picture.proofs.layout.axis.draw_numbers.Given as goal

-- the first numbers are added
abbrev pub invariant-loop-number : goal.invariant-loop-number
invariant-loop-number l = drawn l.canvas ≡ drawn l.fn.canvas ++ flat_map (number_shown l.page) (take l.number-index l.numbers)
