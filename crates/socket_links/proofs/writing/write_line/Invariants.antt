use Rattle.std.proofs.Common.{◌≡◌, ◌-◌, ◌≤◌, length, take}
use Rattle.socket_links.specs.Counts.{NoneFell}
use Rattle.socket_links.specs.Pipes.{GoesOn}
use Rattle.socket_links.proofs.writing.write_line.Given as goal

-- `count` bytes were taken, and the pipe gave none
abbrev pub invariant-loop-count : goal.invariant-loop-count
invariant-loop-count g l =
    (l.count ≤ length l.bytes) × GoesOn (take l.count l.bytes) (g.P.Pipe.took l.fn.pipe) (g.P.Pipe.took l.pipe)
    × (g.P.Pipe.gave l.pipe ≡ g.P.Pipe.gave l.fn.pipe) × NoneFell (g.P.Pipe.counts l.fn.pipe) (g.P.Pipe.counts l.pipe)

abbrev pub decreases-loop-count : goal.decreases-loop-count
decreases-loop-count g l = length l.bytes - l.count
