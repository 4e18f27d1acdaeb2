use Rattle.std.proofs.Common.{◌<◌, arith}
use Rattle.schedules.specs.Rounds.{exchanges_from}
use Rattle.schedules.proofs.Others.{others-both, takes_others}
use Rattle.schedules.proofs.Parts.{range-goes_on, tick-goes_on}
use Rattle.schedules.proofs.slow.give_others.Goals as goal

pub loop-node-preserved : goal.loop-node-preserved
loop-node-preserved g c =
    let below : c.loop-node.node < c.args.net.now.nodes = omega (arith, c.loop-node-test.true, c.nodes-node-end.ensures.nodes) in
    let more = c.in_ok-give_other.ensures in
    record {
      taken = tick-goes_on (takes_others g.S.EventSink.takes c.args.slow) (others-both g.S.EventSink.takes c.args.slow g.met.S.EventSink.takes_both) _ _ _ c.loop-node.node c.args.net.now.nodes _ _ below
          c.loop-node.invariant.taken more.taken;
      failures = omega (arith, c.loop-node.invariant.failures, more.cause);
    }

pub loop-from-preserved : goal.loop-from-preserved
loop-from-preserved g c =
    let below : c.loop-from.from < c.args.net.now.nodes = omega (arith, c.loop-from-test.true, c.nodes-from-end.ensures.nodes) in
    let more = c.in_ok-give_others_from.ensures in
    record {
      taken = range-goes_on (takes_others g.S.EventSink.takes c.args.slow) (others-both g.S.EventSink.takes c.args.slow g.met.S.EventSink.takes_both) _ _ _ (exchanges_from c.args.net.now) c.loop-from.from
          c.args.net.now.nodes _ below c.loop-from.invariant.taken more.taken;
      failures = omega (arith, c.loop-from.invariant.failures, more.cause);
    }
