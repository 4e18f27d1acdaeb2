use Rattle.std.proofs.Common.{◌≡◌, subst, ◌≤◌, Some, rules}
use Rattle.topology.specs.Network.{Network}
use Rattle.topology.specs.Eccentricity.{sharp_of}
use Rattle.judge.specs.configuration.ConfigurationView.{world_of}
use Rattle.experiments.specs.Recovery.{counted_from}
use Rattle.experiments.specs.Scheduled.{stretches}
use Rattle.experiments.specs.Shown.{scrambled, seeded}
use Rattle.experiments.proofs.Bounded.{recovers-within}
use Rattle.experiments.proofs.Harmless.{stretches-undamaged}
use Rattle.experiments.proofs.Plans.{harms-keep}
use Rattle.experiments.proofs.ScrambledRuns.{watched-scrambled}
use Rattle.experiments.proofs.measured_run.watched_run.Goals as goal

pub returns : goal.returns
returns g c =
    let net = c.args.net.now in
    let seed = c.args.seed in
    let count = c.give_stretches.ensures.count in
    let start = scrambled net (seeded seed) in
    let events = (stretches c.args.scheduler net start (seeded seed) count).0 in
    let now = c.give_stretches.new.watch in
    let ok = c.nodes-known_nodes.ensures.network in
    let generator : c.seed_from_u64-generator.result ≡ seeded seed = search rules in
    let w = watched-scrambled c.args.scheduler net seed count c.args.layered (world_of c.in_ok-start.start) c.seed_from_u64-generator.result
    c.begin-watch.result.judge now.judge c.begin-watch.result.last now.last
    c.give_stretches.ensures.goes_on c.begin-watch.ensures c.in_ok-start.ensures generator in
    let harmless = stretches-undamaged c.draws.ensures c.accepted.ensures.undamaged c.slow_rounds.ensures.undamaged net ok (c.edges.ensures net ok) c.args.scheduler start (seeded seed)
    count start in
    let same : start.net ≡ net = harms-keep c.start.ensures net ok c.scramble.ensures.network (Some (seeded seed)) in
    let less : counted_from now.last.serving ≤ sharp_of start.net =
    recovers-within c.runs.ensures.network c.runs.ensures.undamaged_splits c.moments.ensures.leads c.sweep_numbers.ensures.fewer c.sharp.ensures.headline
    start w.seen.judging.in_range events now.last.serving harmless w.failed in
    record {
      count = count;
      enough = c.give_stretches.ensures.enough;
      undamaged = harmless;
      watched = w;
      network = same;
      within = subst (λ (n : Network). counted_from now.last.serving ≤ sharp_of n) same less;
    }
