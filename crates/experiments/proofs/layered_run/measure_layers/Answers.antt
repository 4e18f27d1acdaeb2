use Rattle.std.proofs.Common.{sym, subst, true, Option, refl}
use Rattle.experiments.specs.Layered.{IsSettlingShown}
use Rattle.experiments.specs.Recovery.{AreAnyLayersSeen}
use Rattle.experiments.specs.Scheduled.{HasEnough, stretches}
use Rattle.experiments.specs.Shown.{scrambled, seeded}
use Rattle.experiments.specs.declared.layers_seen.LayersSeen.{LayersSeen}
use Rattle.experiments.proofs.Bounded.{settles-within}
use Rattle.experiments.proofs.ScrambledRuns.{seen-of, some-seen}
use Rattle.experiments.proofs.layered_run.measure_layers.Goals as goal

pub unwrap-layers-requires : goal.unwrap-layers-requires
unwrap-layers-requires g c =
    let run = c.in_ok-watch.ensures in
    let start = scrambled c.args.net.now (seeded c.args.seed) in
    let events = (stretches c.args.scheduler c.args.net.now start (seeded c.args.seed) run.count).0 in
    some-seen start events c.layers.result (subst (λ (l : Option LayersSeen). AreAnyLayersSeen true start events l) (sym c.layers.ensures) run.watched.layers)

pub returns : goal.returns
returns g c =
    let net = c.args.net.now in
    let seed = c.args.seed in
    let run = c.in_ok-watch.ensures in
    let start = scrambled net (seeded seed) in
    let events = (stretches c.args.scheduler net start (seeded seed) run.count).0 in
    let layers = c.unwrap-layers.result in
    let seen = seen-of start events layers c.layers.result
    (subst (λ (l : Option LayersSeen). AreAnyLayersSeen true start events l) (sym c.layers.ensures) run.watched.layers) c.unwrap-layers.ensures in
    let sweeps = c.sweeps.ensures.sweeps start events run.watched.seen in
    let shown : IsSettlingShown start events (record {
      seed = seed;
      events = layers.events;
      links = c.sweeps_after.result;
      tree = c.sweeps_after-2.result;
      ring = c.sweeps_after-3.result;
      served = c.served_after.result;
      seen = c.sweeps.result;
    }) =
    record {
      undamaged = run.undamaged;
      events_are = seen.events_are;
      links = (layers.links, seen.links, c.sweeps_after.ensures);
      tree = (layers.tree, seen.tree, c.sweeps_after-2.ensures);
      ring = (layers.ring, seen.ring, c.sweeps_after-3.ensures);
      served = (c.in_ok-watch.watch.last.serving, run.watched.failed, c.served_after.ensures);
      count = sweeps.0;
      counted = sweeps.1;
      seen_are = sweeps.2;
    } in
    record {
      seed_is = refl;
      count = run.count;
      enough = subst (λ seen. HasEnough net seen run.count) (sym c.sweeps.ensures.count) run.enough;
      shown = shown;
      within = settles-within net start events _ c.runs.ensures.network c.runs.ensures.undamaged_splits c.moments.ensures.leads c.sweep_numbers.ensures.fewer
          c.sharp.ensures.links c.sharp.ensures.tree c.sharp.ensures.token_ring c.sharp.ensures.headline run.watched.seen.judging.in_range run.network shown;
    }
