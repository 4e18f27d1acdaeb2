use Rattle.std.proofs.Common.{false, ◌≡◌, ◌∙◌, ap, sym, List, [], subst}
use Rattle.run_model.specs.World.{World}
use Rattle.run_model.specs.Start.{default_world}
use Rattle.run_model.specs.Run.{run}
use Rattle.run_model.specs.declared.event.Event.{Event}
use Rattle.judge.specs.configuration.ConfigurationView.{world_of}
use Rattle.experiments.specs.Recovery.{IsWatched, beginning}
use Rattle.experiments.proofs.Bounded.{recovers-within}
use Rattle.experiments.proofs.Replays.{harmless-list}
use Rattle.experiments.proofs.delay.replay.Goals as goal

pub returns : goal.returns
returns g c =
    let start : World = run (default_world c.args.net.now) c.args.harms.now in
    let es : List Event = c.args.events.now in
    let now = c.watch_all.new.watch in
    let begins : world_of c.happen.new.world ≡ start = c.happen.ensures ∙ ap (λ (w : World). run w c.args.harms.now) c.in_ok-start.ensures in
    let w : IsWatched (beginning start false) es now.judge now.last =
    c.watch_all.ensures (beginning start false) [] (subst (λ (w : World). IsWatched (beginning w false) [] c.new-watch.result.judge c.new-watch.result.last) begins c.new-watch.ensures) in
    let harmless = harmless-list start es (sym c.has_harm.ensures ∙ c.if-has_harm.false) in
    let count = c.sweeps.ensures.sweeps start es w.seen in (
      record {
        undamaged = harmless;
        last = now.last.serving;
        failed = w.failed;
        sweeps_are = c.served_after.ensures;
        count = count.0;
        counted = count.1;
        seen_are = count.2;
      },
      rw c.served_after.ensures
          (recovers-within c.runs.ensures.network c.runs.ensures.undamaged_splits c.moments.ensures.leads c.sweep_numbers.ensures.fewer c.sharp.ensures.headline
          start w.seen.judging.in_range es now.last.serving harmless w.failed),
    )
