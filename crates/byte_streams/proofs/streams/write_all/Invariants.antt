use Rattle.std.proofs.Common.{length, ◌-◌, take, ◌≤◌}
use Rattle.byte_streams.specs.Streams.{Takes}
use Rattle.byte_streams.proofs.streams.write_all.Given as goal

-- `written` bytes were written
abbrev pub invariant-loop-written : goal.invariant-loop-written
invariant-loop-written g l =
    (l.written ≤ length l.bytes) × Takes (take l.written l.bytes) (g.W.Sink.taken l.fn.sink) (g.W.Sink.taken l.sink)
    × (g.W.Sink.failures l.fn.sink ≤ g.W.Sink.failures l.sink)

abbrev pub decreases-loop-written : goal.decreases-loop-written
decreases-loop-written g l = length l.bytes - l.written
