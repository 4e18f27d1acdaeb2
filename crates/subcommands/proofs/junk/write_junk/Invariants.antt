use Rattle.std.proofs.Common.{◌≤◌}
use Rattle.subcommands.proofs.JunkLines.{IsUnderWay}
use Rattle.subcommands.proofs.junk.write_junk.Given as goal

-- the lines so far were taken
abbrev pub invariant-loop-line : goal.invariant-loop-line
invariant-loop-line g l =
    IsUnderWay l.lines l._line l.seed l.generator (g.W.Sink.taken l.fn.sink) (g.W.Sink.taken l.sink)
    × (g.W.Sink.failures l.fn.sink ≤ g.W.Sink.failures l.sink)
