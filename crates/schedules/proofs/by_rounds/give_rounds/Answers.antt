use Rattle.std.proofs.Common.{arith}
use Rattle.schedules.proofs.Parts.{round-goes_on}
use Rattle.schedules.proofs.by_rounds.give_rounds.Goals as goal

pub loop-i-preserved : goal.loop-i-preserved
loop-i-preserved g c =
    let more = c.in_ok-give_round.ensures in
    record {
      taken = round-goes_on g.S.EventSink.takes g.met.S.EventSink.takes_both _ _ _ c.args.net.now c.loop-i.i c.args.count _ c.loop-i-test.true c.loop-i.invariant.taken more.taken;
      failures = omega (arith, c.loop-i.invariant.failures, more.cause);
    }
