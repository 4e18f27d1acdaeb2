-- Every event of a schedule is accepted.
use Rattle.std.proofs.Common.{◌≡◌, subst, ℕ, ◌-◌, ◌<◌, Option, Some, None, length, replicate, refl}
use Rattle.rand_pcg.specs.Lcg.{Lcg}
use Rattle.topology.specs.Network.{Network, IsAcceptedNetwork}
use Rattle.run_model.specs.World.{World}
use Rattle.run_model.specs.Start.{default_world}
use Rattle.run_model.specs.Run.{run}
use Rattle.run_model.specs.Laws.{NetworkStays, StartIsInRange}
use Rattle.schedules.specs.damage_tool.Laws.{AreAccepted, ScrambleIsAccepted, ScrambleKeepsNetwork, DrawsAreBelow}
use Rattle.schedules.specs.Laws.{RoundIsUndamaged, RoundsAreAccepted}
use Rattle.schedules.specs.Rounds.{rounds}
use Rattle.experiments.specs.Plan.{harms_of, ordered, planned, turns}
use Rattle.experiments.specs.declared.plan.Order.{Order}
use Rattle.experiments.specs.declared.plan.Order.TheVariants.{Rounds, Random}
use Rattle.experiments.proofs.Backs.{accepted-append, rounds-accepted, steps-accepted}
use Rattle.experiments.proofs.Steps.{random-accepted}

module _ (start : StartIsInRange) (net : Network) (ok : IsAcceptedNetwork net) where
  -- no client waits in the default world
  harms-accepted : ScrambleIsAccepted → (scramble : Option Lcg) → AreAccepted (default_world net) (harms_of net scramble)
  harms-accepted accepted None = tt
  harms-accepted accepted (Some g) = accepted (default_world net) g (start net 0 ok) (λ v below. refl)

  pub harms-keep : ScrambleKeepsNetwork → (scramble : Option Lcg) → (run (default_world net) (harms_of net scramble)).net ≡ net
  harms-keep keeps None = refl
  harms-keep keeps (Some g) = keeps (default_world net) g (start net 0 ok) (λ v below. refl)

  module _ (network : NetworkStays) (accepted : ScrambleIsAccepted) (keeps : ScrambleKeepsNetwork) (draw_below : DrawsAreBelow)
      (by_rounds : RoundsAreAccepted) (harmless : RoundIsUndamaged) (some : 0 < length net.edges) where
    order-accepted : (order : Order) (w : World) → w.net ≡ net → AreAccepted w (ordered net w order)
    order-accepted (Rounds count) w same = subst (λ (x : Network). AreAccepted w (rounds x count)) same (by_rounds w count)
    order-accepted (Random steps chances g) w same = random-accepted draw_below net ok some network chances steps w g same

    turns-accepted : (loan : Option ℕ) (order : Order) (w : World) → w.net ≡ net → AreAccepted w (turns net w loan order)
    turns-accepted None order w same = order-accepted order w same
    turns-accepted (Some ticks) (Rounds count) w same = rounds-accepted network net by_rounds harmless (ticks - 1) w (replicate 64 (ticks - 1)) count same
    turns-accepted (Some ticks) (Random steps chances g) w same =
        steps-accepted network net draw_below ok some (ticks - 1) chances steps w (replicate 64 (ticks - 1)) g same

    pub plan-accepted : (scramble : Option Lcg) (loan : Option ℕ) (order : Order) → AreAccepted (default_world net) (planned net scramble loan order)
    plan-accepted scramble loan order =
        let harms = harms_of net scramble in
        accepted-append (default_world net) harms (turns net (run (default_world net) harms) loan order) (harms-accepted accepted scramble)
        (turns-accepted loan order (run (default_world net) harms) (harms-keep keeps scramble))
