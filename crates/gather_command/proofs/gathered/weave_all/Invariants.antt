use Rattle.std.proofs.Common.{List}
use Rattle.gather_command.specs.Reading.{MayFail}
use Rattle.gather_command.specs.Weave.{Moment}
use Rattle.gather_command.specs.Woven.{HasWoven}
use Rattle.gather_command.proofs.gathered.weave_all.Given as goal

-- these entries were woven so far
abbrev pub invariant-loop : goal.invariant-loop
invariant-loop g l =
    (ms : List Moment)
    × HasWoven (MayFail g.S.Source.failures) g.K.EventSink.takes g.K.EventSink.failures l.fn.weaving l.fn.sink ms l.weaving l.sink
