use Rattle.std.proofs.Common.{◌≡◌, ◌^◌}
use Rattle.run_picture.proofs.Axis.{NoneFar, thrice}
use Rattle.run_picture.proofs.layout.axis.round_step.Given as goal

-- none below the next power of ten was far enough
abbrev pub invariant-loop : goal.invariant-loop
invariant-loop l = (l.power ≡ 10 ^ l.counter) × NoneFar l.moments l.width.0 (thrice l.counter)
