-- A run that goes on without damage fails for the last time before the sharper bound.
use Rattle.std.proofs.Common.{◌≡◌, ◌∙◌, ap, sym, subst, ℕ, ◌+◌, ◌-◌, ◌*◌, ◌<◌, ◌≤◌, Option, Some, None, List, arith, inl, inr}
use Rattle.std.specs.Prelude.{◌⊎◌}
use Rattle.std.proofs.lemmas.Bool.{cases_lt}
use Rattle.topology.specs.Network.{Network}
use Rattle.topology.specs.Eccentricity.{eccentricity_of, sharp_of}
use Rattle.run_model.specs.World.{World, IsWorldInRange}
use Rattle.run_model.specs.Run.{run, IsUndamaged}
use Rattle.run_model.specs.Count.{after_damage, IsSweepCount}
use Rattle.run_model.specs.Headline.{IsServing}
use Rattle.run_model.specs.Links.{AreLinksStable}
use Rattle.run_model.specs.Tree.{IsTreeReached}
use Rattle.run_model.specs.Sweep.{Sweeps}
use Rattle.run_model.specs.Laws.{FewerSweeps, NetworkStays, UndamagedSplits, MomentLeads}
use Rattle.run_model.specs.declared.event.Event.{Event}
use Rattle.layers.specs.convergence.Ring.{IsTokenRingGood}
use Rattle.layers.specs.convergence.Sharp.{LinksConvergeSooner, TreeConvergesSooner, TokenRingConvergesSooner, SharpHeadline}
use Rattle.experiments.specs.Layered.{HoldsFrom, IsSettlingShown, IsSettlingWithin}
use Rattle.experiments.specs.Recovery.{FailedLast, FailsLast, counted_from}
use Rattle.experiments.specs.declared.layered_run.Settling.{Settling}

-- a fact that holds after as many sweeps as a bound of the network says fails for the last time before that
module _ (Fact : World → Type 0) (bound : Network → ℕ)
    (converges : (w : World) (es : List Event) → IsWorldInRange w → IsUndamaged w es → Sweeps w (bound w.net) es → Fact (run w es))
    (network : NetworkStays) (splits : UndamagedSplits) (leads : MomentLeads) (fewer : FewerSweeps) (start : World) (ok : IsWorldInRange start) where
  -- as many sweeps as the bound of the network that stands lead to a world in which it holds
  holds-after : (es : List Event) (count : ℕ) → IsSweepCount start es count → bound (run start es).net ≤ count → Fact (run start es)
  holds-after es count counted enough =
      let m = after_damage start es in
      let l = leads start es ok in
      let same : m.world.net ≡ (run start es).net = sym (network m.world m.rest l.1) ∙ ap (λ (w : World). w.net) l.2 in
      let few : bound m.world.net ≤ count = subst (λ (n : Network). bound n ≤ count) (sym same) enough in
      subst Fact l.2 (converges m.world m.rest l.0 l.1 (fewer m.world (bound m.world.net) count m.rest few counted.held))

  fails-before : (es : List Event) (count : ℕ) → IsUndamaged start es → IsSweepCount start es count → ¬ Fact (run start es) → count < bound start.net
  fails-before es count harmless counted fails =
      elim (cases_lt count (bound start.net)) [
        | inl less ↦ less
        | inr enough ↦
            absurd (fails (holds-after es count counted (subst (λ (n : Network). bound n ≤ count) (sym (network start es harmless)) enough)))
      ]

  pub holds-within : (es : List Event) (last : Option ℕ) → IsUndamaged start es → FailsLast Fact start es last → counted_from last ≤ bound start.net
  holds-within es None harmless failed = omega arith
  holds-within es (Some sweeps) harmless failed =
      let front : IsUndamaged start failed.front = (splits start failed.front failed.back (subst (IsUndamaged start) failed.parts harmless)).0 in
      let less : failed.count < bound start.net = fails-before failed.front failed.count front failed.counted failed.fails in
      omega (arith, less, failed.sweeps_are)

pub recovers-within : NetworkStays → UndamagedSplits → MomentLeads → FewerSweeps → SharpHeadline → (start : World) → IsWorldInRange start
    → (es : List Event) (last : Option ℕ) → IsUndamaged start es → FailedLast start es last → counted_from last ≤ sharp_of start.net
recovers-within network splits leads fewer sharp start ok es last harmless failed =
    holds-within IsServing sharp_of sharp network splits leads fewer start ok es last harmless failed

-- the numbers of a run are within what the proof says of each layer
pub settles-within : (net : Network) (start : World) (es : List Event) (s : Settling) → NetworkStays → UndamagedSplits → MomentLeads → FewerSweeps
    → LinksConvergeSooner → TreeConvergesSooner → TokenRingConvergesSooner → SharpHeadline → IsWorldInRange start → start.net ≡ net
    → IsSettlingShown start es s → IsSettlingWithin net s
settles-within net start es s network splits leads fewer links tree ring sharp ok same shown =
    let within : (Fact : World → Type 0) (bound : Network → ℕ)
    → ((w : World) (es : List Event) → IsWorldInRange w → IsUndamaged w es → Sweeps w (bound w.net) es → Fact (run w es))
    → (sweeps : ℕ) → HoldsFrom Fact start es sweeps → sweeps ≤ bound net =
    λ Fact bound converges sweeps h.
    subst (λ n. sweeps ≤ bound n) same
    (subst (λ k. k ≤ bound start.net) (sym h.2)
    (holds-within Fact bound converges network splits leads fewer start ok es h.0 shown.undamaged h.1)) in
    record {
      links = within AreLinksStable (λ n. 6) links s.links shown.links;
      tree = within IsTreeReached (λ n. 6 + 4 * (eccentricity_of n + 2)) tree s.tree shown.tree;
      ring = within IsTokenRingGood (λ n. sharp_of n - 1) ring s.ring shown.ring;
      served = within IsServing sharp_of sharp s.served shown.served;
    }
