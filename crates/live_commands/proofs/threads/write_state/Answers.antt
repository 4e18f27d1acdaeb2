use Rattle.std.proofs.Common.{sym, subst}
use Rattle.command_parts.specs.world.run_model.Count.{IsSweepCount}
use Rattle.command_parts.specs.world.judge.configuration.ConfigurationView.{world_of}
use Rattle.command_parts.specs.world.judge.Judging.{counted_up_to}
use Rattle.byte_streams.specs.Streams.{Takes}
use Rattle.command_parts.specs.world.StateText.{state_text}
use Rattle.live_commands.proofs.threads.write_state.Goals as goal

pub returns-in-Ok-flush-clause-text : goal.returns-in-Ok-flush-clause-text
returns-in-Ok-flush-clause-text g c =
    let seen = c.judge-report.ensures.sweeps in
    let shown = subst (λ n. Takes (state_text (world_of c.args.woven.now.world) n) (g.W.Sink.taken c.args.sink.now)
    (g.W.Sink.taken c.state_text.new.sink)) seen.2 c.in-Ok.ensures.text.0 in
    record {
      count = seen.0;
      counted = subst (λ events. IsSweepCount (world_of c.args.start) events seen.0) c.as_slice.ensures.value seen.1;
      text = subst (λ taken. Takes (state_text (world_of c.args.woven.now.world) (counted_up_to seen.0)) (g.W.Sink.taken c.args.sink.now) taken)
          (sym c.flush.ensures.taken) shown;
    }
