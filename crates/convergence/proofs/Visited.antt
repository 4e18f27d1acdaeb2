-- The privilege visits each node: from a legitimate world, and so from any world once it is
-- legitimate.
use Rattle.std.proofs.Common.{◌-◌, ◌*◌, ◌<◌, sym, subst}
use Rattle.topology.specs.Eccentricity.{sharp_of}
use Rattle.run_model.specs.Run.{run}
use Rattle.run_model.specs.Sweep.{Sweeps}
use Rattle.convergence.specs.Service.{LegitimateVisits, EachStateVisits}
use Rattle.convergence.specs.Below.{Below}
use Rattle.convergence.proofs.Whole.{parted, world-converges_sooner}

module _ (b : Below) where
  pub legitimate-visits : LegitimateVisits
  legitimate-visits w es v r u l h sweeps = b.visits w es v (record { range = r; links = l.links; tree = l.tree }) u l.ring h sweeps

  pub each-state_visits : EachStateVisits
  each-state_visits w es v r u h sweeps =
      let x = b.split w (sharp_of w.net) (16 * (w.net.nodes - 1)) es sweeps in
      let p = parted b w es x.0 x.1 x.2 u in
      let mid = run w x.0 in
      let net = sym (b.network w x.0 p.early) in
      let more : Sweeps mid (16 * (mid.net.nodes - 1)) x.1 = subst (λ n. Sweeps mid (16 * (n.nodes - 1)) x.1) net x.4 in
      let in-mid : v < mid.net.nodes = subst (λ n. v < n.nodes) net h in
      let legitimate = world-converges_sooner b w x.0 r p.early x.3 in
      (x.0, x.1, x.2, legitimate, legitimate-visits mid x.1 v (b.ranges w x.0 r) p.late legitimate in-mid more)
