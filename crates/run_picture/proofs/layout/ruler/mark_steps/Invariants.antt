use Rattle.std.proofs.Common.{◌≡◌, string_bytes, take}
use Rattle.run_picture.specs.Added.{over_each}
use Rattle.run_picture.specs.Ruler.{mark_over}
use Rattle.run_picture.proofs.layout.ruler.mark_steps.Given as goal

-- what stands over the columns so far
abbrev pub invariant-loop-place : goal.invariant-loop-place
invariant-loop-place l = string_bytes l.steps ≡ over_each (mark_over l.mark l.page) 0 (take l.place l.columns)
