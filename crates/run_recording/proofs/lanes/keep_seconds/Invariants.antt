use Rattle.std.proofs.Common.{◌≡◌, ◌++◌, ◌*◌, drop, take, length}
use Rattle.std.specs.Vec.{vec_capacity}
use Rattle.run_recording.specs.Laned.{seconds}
use Rattle.run_recording.proofs.lanes.keep_seconds.Given as goal

-- the first pairs have become one each, and what follows is as it was
abbrev pub invariant-loop-k : goal.invariant-loop-k
invariant-loop-k g l =
    (take l.k l.states.items ++ seconds (drop (2 * l.k) l.fn.states.items) ≡ seconds l.fn.states.items)
    × (drop l.k l.states.items ≡ drop l.k l.fn.states.items)
    × (length l.states.items ≡ length l.fn.states.items)
    × (vec_capacity l.states ≡ vec_capacity l.fn.states)
