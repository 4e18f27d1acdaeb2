use Rattle.std.proofs.Common.{List, sym, subst, arith}
use Rattle.std.proofs.lemmas.List.{take_all, take_more}
use Rattle.run_model.specs.declared.event.Event.{Event}
use Rattle.experiments.specs.Watched.{GoesOn, goes-both}
use Rattle.experiments.proofs.delay.watch_all.Goals as goal

pub loop-event-preserved : goal.loop-event-preserved
loop-event-preserved g c =
    let before = c.args.watch.now in
    let now = c.take-taken.new.self in
    subst (λ (es : List Event). GoesOn before.judge before.last es now.judge now.last) (sym (take_more c.args.events.now c.loop-event.event-index _ c.loop-event-test.true))
    (goes-both before.judge c.loop-event.watch.judge now.judge before.last c.loop-event.watch.last now.last _ _ c.loop-event.invariant c.take-taken.ensures.taken)

pub returns : goal.returns
returns g c =
    let before = c.args.watch.now in
    subst (λ (es : List Event). GoesOn before.judge before.last es c.loop-event.watch.judge c.loop-event.watch.last)
    (take_all c.loop-event.event-index c.args.events.now (omega (arith, c.loop-event-test.false))) c.loop-event.invariant
