use Rattle.std.proofs.Common.{◌≡◌, ◌++◌, string_bytes, take, map}
use Rattle.run_picture.specs.Curves.{count_in, steps_from}
use Rattle.run_picture.proofs.layout.curves.steps_of.Given as goal

-- the steps of the columns so far
abbrev pub invariant-loop-place : goal.invariant-loop-place
invariant-loop-place l =
    string_bytes l.steps ≡ string_bytes l.initial.steps ++ steps_from l.page l.node.0 0 (take l.place (map (count_in l.curve) l.columns))
