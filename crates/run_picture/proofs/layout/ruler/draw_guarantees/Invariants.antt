use Rattle.std.proofs.Common.{◌≡◌, ◌++◌, take}
use Rattle.svg_drawing.specs.Drawn.{drawn}
use Rattle.run_picture.specs.Added.{over_each}
use Rattle.run_picture.specs.Ruler.{guarantees_over}
use Rattle.run_picture.proofs.layout.ruler.draw_guarantees.Given as goal

-- the lines of the columns so far are added
abbrev pub invariant-loop-place : goal.invariant-loop-place
invariant-loop-place l = drawn l.canvas ≡ drawn l.fn.canvas ++ over_each (guarantees_over l.page) 0 (take l.place l.columns)
