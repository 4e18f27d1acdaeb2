use Rattle.std.proofs.Common.{subst, sym, refl}
use Rattle.experiments.specs.Scheduled.{HasEnough, stretches}
use Rattle.experiments.specs.Shown.{scrambled, seeded}
use Rattle.experiments.proofs.measured_run.measure_run.Goals as goal

pub returns : goal.returns
returns g c =
    let net = c.args.net.now in
    let run = c.in_ok-watch.ensures in
    let start = scrambled net (seeded c.args.seed) in
    let events = (stretches c.args.scheduler net start (seeded c.args.seed) run.count).0 in
    let count = c.sweeps.ensures.sweeps start events run.watched.seen in
    record {
      seed_is = refl;
      count = run.count;
      enough = subst (λ seen. HasEnough net seen run.count) (sym c.sweeps.ensures.count) run.enough;
      shown = record {
        undamaged = run.undamaged;
        last = c.in_ok-watch.watch.last.serving;
        failed = run.watched.failed;
        sweeps_are = c.served_after.ensures;
        count = count.0;
        counted = count.1;
        seen_are = count.2;
      };
      within = rw c.served_after.ensures run.within;
    }
