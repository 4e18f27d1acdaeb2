use Rattle.std.proofs.Common.{arith, subst, sym, List}
use Rattle.std.proofs.lemmas.List.{take_more}
use Rattle.record_gathering.specs.configuration.run_model.declared.event.Event.{Event}
use Rattle.gather_command.proofs.gathered.give_all.Goals as goal

pub loop-event-preserved : goal.loop-event-preserved
loop-event-preserved g c =
    let more = c.in_ok-take.ensures in
    let i = c.loop-event.event-index in
    record {
      taken = subst (λ (es : List Event). g.K.EventSink.takes c.args.sink.now es c.take.new.self)
          (sym (take_more c.args.events.now i _ c.loop-event-test.true))
          (g.met.K.EventSink.takes_both _ _ _ _ _ c.loop-event.invariant.taken more.taken);
      failures = omega (arith, c.loop-event.invariant.failures, more.cause);
    }
