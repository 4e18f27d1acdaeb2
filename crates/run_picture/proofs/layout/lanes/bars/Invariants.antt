use Rattle.std.proofs.Common.{◌≡◌, string_bytes, take}
use Rattle.std.specs.List.{flat_map}
use Rattle.run_picture.specs.Lanes.{bar}
use Rattle.run_picture.proofs.layout.lanes.bars.Given as goal

-- the bars of the first runs are added
abbrev pub invariant-loop-run : goal.invariant-loop-run
invariant-loop-run l = string_bytes l.steps ≡ flat_map (bar l.page l.y.0 l.bad) (take l.run-index l.runs)
