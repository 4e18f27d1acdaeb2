use Rattle.std.proofs.Common.{◌∙◌}
use Rattle.rayon.specs.Numbers.{nat_range}
use Rattle.subcommands.proofs.Runs.{runs-of}
use Rattle.subcommands.proofs.side_by_side.make_runs.Goals as goal

pub returns : goal.returns
returns g c =
    let ends = c.into_par_iter.ensures in
    let h = c.in_ok-collect.ensures in
    let chain = rw (c.map.ensures.base, c.map.ensures.f) at h.1 in
    runs-of (g.M.Measurement.is_of c.args.net.now c.args.plan.scheduler) c.args.plan _ (λ i r ok. ok) chain.0 h.0 _ (chain.1 ∙ (λ i. nat_range (ends.0 i) (ends.1 i))) chain.2 h.2
