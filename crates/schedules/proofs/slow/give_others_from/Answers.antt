use Rattle.std.proofs.Common.{◌≡◌, ◌+◌, get_or, subst, arith}
use Rattle.schedules.specs.Rounds.{exchanges}
use Rattle.schedules.proofs.Others.{others-both, takes_others}
use Rattle.schedules.proofs.Parts.{each-goes_on}
use Rattle.schedules.proofs.slow.give_others_from.Goals as goal

pub loop-to-preserved : goal.loop-to-preserved
loop-to-preserved g c =
    let more = c.in_ok-give_other_exchanges.ensures in
    let to = get_or c.neighbours-neighbours.result.now c.loop-to.to-index 0 in
    let takes = takes_others g.S.EventSink.takes c.args.slow in
    let items : c.from-count.result + 1 ≡ c.args.net.now.capacity + 1 = omega (arith, c.from-count.ensures, c.capacity.ensures.capacity) in
    record {
      taken = each-goes_on takes (others-both g.S.EventSink.takes c.args.slow g.met.S.EventSink.takes_both) _ _ _ (λ v. exchanges c.args.from v (c.args.net.now.capacity + 1)) _ c.loop-to.to-index _
          c.loop-to-test.true c.loop-to.invariant.taken
          (subst (λ k. takes c.loop-to.sink (exchanges c.args.from to k) c.give_other_exchanges.new.sink) items more.taken);
      failures = omega (arith, c.loop-to.invariant.failures, more.cause);
    }
