use Rattle.std.proofs.Common.{arith}
use Rattle.std.proofs.lemmas.List.{drop_more}
use Rattle.command_parts.proofs.giving.give_events.Goals as goal

pub loop-event-preserved : goal.loop-event-preserved
loop-event-preserved g c =
    let more = c.in_ok-take.ensures in
    let front = drop_more c.args.events.now c.loop-event.event-index _ c.loop-event-test.true in
    record {
      taken = c.taking.ensures _ _ _ _ _ _ _ c.loop-event.invariant.taken front more.taken;
      failures = omega (arith, c.loop-event.invariant.failures, more.cause);
    }
