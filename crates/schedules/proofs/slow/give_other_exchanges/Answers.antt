use Rattle.std.proofs.Common.{arith}
use Rattle.schedules.proofs.Others.{others-both, takes_others}
use Rattle.schedules.proofs.Parts.{exchange-goes_on}
use Rattle.schedules.proofs.slow.give_other_exchanges.Goals as goal

pub loop-i-preserved : goal.loop-i-preserved
loop-i-preserved g c =
    let one = c.in_ok-give_other.ensures in
    let two = c.in_ok-give_other-2.ensures in
    record {
      taken = exchange-goes_on (takes_others g.S.EventSink.takes c.args.slow) (others-both g.S.EventSink.takes c.args.slow g.met.S.EventSink.takes_both) _ _ _ _ c.args.from c.args.to c.loop-i.i c.args.count _
          c.loop-i-test.true c.loop-i.invariant.taken one.taken two.taken;
      failures = omega (arith, c.loop-i.invariant.failures, one.cause, two.cause);
    }
