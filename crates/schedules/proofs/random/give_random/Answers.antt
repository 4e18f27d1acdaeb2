use Rattle.std.proofs.Common.{arith}
use Rattle.configuration.specs.ConfigurationView.{world_of}
use Rattle.schedules.proofs.Parts.{step-goes_on}
use Rattle.schedules.proofs.random.give_random.Goals as goal

pub loop-i-preserved : goal.loop-i-preserved
loop-i-preserved g c =
    let more = c.in_ok-take.ensures in
    let next = c.next_step-event.ensures in
    record {
      taken = step-goes_on g.S.EventSink.takes g.met.S.EventSink.takes_both _ _ _ (world_of c.loop-i.configuration) (world_of c.next_step-event.new.configuration) c.args.chances
          c.loop-i.generator c.next_step-event.new.generator c.next_step-event.result c.loop-i.i c.args.count _ c.loop-i-test.true c.loop-i.invariant.taken
          next.drawn.0 next.drawn.1 next.happens more.taken;
      failures = omega (arith, c.loop-i.invariant.failures, more.cause);
    }
