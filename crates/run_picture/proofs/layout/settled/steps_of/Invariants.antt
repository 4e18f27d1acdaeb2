use Rattle.std.proofs.Common.{◌≡◌, ◌++◌, string_bytes, take, map}
use Rattle.run_picture.specs.Settled.{base_of, level_in, settled_from}
use Rattle.run_picture.proofs.layout.settled.steps_of.Given as goal

-- the outline over the columns so far
abbrev pub invariant-loop-place : goal.invariant-loop-place
invariant-loop-place l =
    string_bytes l.steps ≡ string_bytes l.initial.steps
    ++ settled_from l.page (base_of l.page l.layer) 0 (take l.place (map (level_in l.layer) l.states))
