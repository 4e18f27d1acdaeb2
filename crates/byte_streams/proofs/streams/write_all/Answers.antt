use Rattle.std.proofs.Common.{◌+◌, ◌≤◌, length, take, arith}
use Rattle.std.proofs.lemmas.Grind.{common_steps}
use Rattle.byte_streams.specs.Streams.{Takes}
use Rattle.byte_streams.proofs.Writing.{takes_more, first_taken, fails_within}
use Rattle.byte_streams.proofs.streams.write_all.Goals as goal

pub loop-written-preserved : goal.loop-written-preserved
loop-written-preserved g c =
    let wrote = c.in_ok-written.ensures in
    let so_far = c.loop-written.invariant in
    let within : c.loop-written.written + c.in_ok-written.field-0 ≤ length c.args.bytes.now = grind (arith, common_steps) in
    (within, takes_more c.args.bytes.now c.loop-written.written c.in_ok-written.field-0 _ _ _ so_far.0 so_far.1 wrote.2, grind (arith, common_steps))

pub returns-in_err-written : goal.returns-in_err-written
returns-in_err-written g c =
    let failed = c.in_err-written.ensures in
    let so_far = c.loop-written.invariant in
    let taken : Takes (take c.loop-written.written c.args.bytes.now) (g.W.Sink.taken c.args.sink.now) (g.W.Sink.taken c.write.new.self) = rw failed.0 so_far.1 in
    fails_within c.from_residual.result c.args.bytes.now _ _ _ _ c.from_residual.ensures.0 (first_taken c.args.bytes.now c.loop-written.written _ _ taken)
    (grind (arith, common_steps)) (grind (arith, common_steps))
