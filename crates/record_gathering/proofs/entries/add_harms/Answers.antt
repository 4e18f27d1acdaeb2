use Rattle.std.proofs.lemmas.List.{take_more}
use Rattle.record_gathering.proofs.Places.{one-harm_more}
use Rattle.record_gathering.proofs.entries.add_harms.Goals as goal

pub loop-harm-preserved : goal.loop-harm-preserved
loop-harm-preserved g c =
    let i = c.loop-harm.harm-index in
    one-harm_more _ _ _ c.args.harms.now i _ (take_more c.args.harms.now i _ c.loop-harm-test.true) c.loop-harm.invariant
    c.in_ok-add_harm.ensures
