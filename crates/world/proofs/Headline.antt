-- What the counted sweeps of a run say about the world that it led to.
use Rattle.std.proofs.Common.{◌≡◌, ◌∙◌, sym, ap, subst, ℕ, ◌+◌, ◌*◌, ◌≤◌, IsTrue, List, Contains, arith}
use Rattle.judge.specs.run_model.World.{World, IsWorldInRange}
use Rattle.judge.specs.run_model.Run.{run, IsUndamaged}
use Rattle.judge.specs.run_model.Sweep.{Sweeps}
use Rattle.judge.specs.run_model.Count.{after_damage, IsSweepCount}
use Rattle.judge.specs.run_model.Laws.{FewerSweeps, NetworkStays, RunsJoin, UndamagedSplits, RangesStay, MomentLeads}
use Rattle.judge.specs.run_model.declared.event.Event.{Event}
use Rattle.topology.specs.Network.{Network, are_joined}
use Rattle.convergence.specs.Legitimate.{IsLegitimate}
use Rattle.convergence.specs.Laws.{PayloadsConverge, LegitimateStays, LegitimateServes}
use Rattle.convergence.specs.Said.{said_in}
use Rattle.convergence.specs.Closure.{IsLegitimateThroughout}
use Rattle.convergence.specs.Payloads.{ArePayloadsFresh}
use Rattle.convergence.specs.tree_convergence.Laws.{NumbersMove}
use Rattle.world.specs.Numbers.{DoNumbersMove}
use Rattle.judge.specs.Judging.{counted_up_to}
use Rattle.judge.specs.JudgeView.{JudgeView, HasSeen}
use Rattle.judge.specs.configuration.ConfigurationView.{ConfigurationView, world_of}

-- as many sweeps without damage as the network needs lead from each world in range to one with P
abbrev pub LeadsTo : (Network → ℕ) → (World → Type 0) → Type 0
LeadsTo needed P = (w : World) (es : List Event) → IsWorldInRange w → IsUndamaged w es → Sweeps w (needed w.net) es → P (run w es)

-- The network at the moment after the last damage is the network at the end, and the run has
-- reached what those sweeps lead to.
module _ (network : NetworkStays) (leads : MomentLeads) (start : World) (es : List Event) (ok : IsWorldInRange start) where
  pub same-network : (after_damage start es).world.net ≡ (run start es).net
  same-network =
      let l = leads start es ok in
      sym (network (after_damage start es).world (after_damage start es).rest l.1) ∙ ap (λ w. w.net) l.2

  pub after-sweeps : FewerSweeps → (count : ℕ) → IsSweepCount start es count → (needed : Network → ℕ) (P : World → Type 0) → LeadsTo needed P
      → needed (run start es).net ≤ count → P (run start es)
  after-sweeps fewer count counts needed P law enough =
      let m = after_damage start es in
      let l = leads start es ok in
      let few : needed m.world.net ≤ count = subst (λ n. needed n ≤ count) (sym same-network) enough in
      subst P l.2 (law m.world m.rest l.0 l.1 (fewer m.world (needed m.world.net) count m.rest few counts.held))

  -- what is staged and copied at its end is what its node would have said at some moment of its
  -- last three sweeps
  pub payloads-fresh : RunsJoin → PayloadsConverge → ArePayloadsFresh start es (run start es)
  payloads-fresh joins law first last u v parted joined early late =
      let m = after_damage start es in
      let l = leads start es ok in
      let joined-then : IsTrue (are_joined m.world.net.edges u v) = subst (λ n. IsTrue (are_joined n.edges u v)) (sym same-network) joined in
      let early-then : Sweeps m.world (4 * (m.world.net.capacity + 1)) first = subst (λ n. Sweeps m.world (4 * (n.capacity + 1)) first) (sym same-network) early in
      let said = said_in (run m.world first) last u v in
      let now : run (run m.world first) last ≡ run start es = sym (joins m.world first last) ∙ ap (run m.world) (sym parted) ∙ l.2 in
      subst (λ w. Contains said ((w.node u).port v).staged × Contains said ((w.node v).port u).copy) now
      (law m.world first last u v l.0 (subst (IsUndamaged m.world) parted l.1) joined-then early-then late)

  -- two of the sweeps since the last damage move each sender's number
  pub numbers-move : UndamagedSplits → RangesStay → NumbersMove → DoNumbersMove start es (run start es)
  numbers-move splits ranges law first last u v parted joined sweeps =
      let m = after_damage start es in
      let l = leads start es ok in
      let fine : IsUndamaged m.world first = (splits m.world first last (subst (IsUndamaged m.world) parted l.1)).0 in
      let net : (run m.world first).net ≡ (run start es).net = network m.world first fine ∙ same-network in
      law (run m.world first) last u v (ranges m.world first l.0) (subst (λ n. IsTrue (are_joined n.edges u v)) (sym net) joined) sweeps

-- from a legitimate world, events without damage lead only through legitimate worlds
pub closed : UndamagedSplits → RangesStay → LegitimateStays → LegitimateServes → (start : World) (es : List Event) → IsWorldInRange start → IsLegitimate start
    → IsUndamaged start es → IsLegitimateThroughout start es
closed splits ranges stays serves start es ok legitimate fine before rest parted =
    let early = splits start before rest (subst (IsUndamaged start) parted fine) in
    let then = stays start before ok early.0 legitimate in
    (then, serves (run start before) (ranges start before ok) then)

-- A judge has seen the events of a list, and hands out the configuration `now`.
module _ (network : NetworkStays) (leads : MomentLeads) (start : World) (es : List Event) (j : JudgeView) (seen : HasSeen j start es)
    (now : ConfigurationView) (now-is : now ≡ j.configuration) where
  pub led : run start es ≡ world_of now
  led = sym (ap world_of now-is ∙ seen.judging.now_is)

  pub fresh : RunsJoin → PayloadsConverge → ArePayloadsFresh start es (world_of now)
  fresh joins law = subst (ArePayloadsFresh start es) led (payloads-fresh network leads start es seen.judging.in_range joins law)

  pub moved : UndamagedSplits → RangesStay → NumbersMove → DoNumbersMove start es (world_of now)
  moved splits ranges law = subst (DoNumbersMove start es) led (numbers-move network leads start es seen.judging.in_range splits ranges law)

  -- so its count says what the world has reached
  pub reached : FewerSweeps → (sweeps count : ℕ) → IsSweepCount start es count → sweeps ≡ counted_up_to count
      → (needed : Network → ℕ) (P : World → Type 0) → LeadsTo needed P → needed (world_of now).net ≤ sweeps → P (world_of now)
  reached fewer sweeps count counts same needed P law enough =
      let enough-then : needed (run start es).net ≤ sweeps = subst (λ w. needed w.net ≤ sweeps) (sym led) enough in
      subst P led (after-sweeps network leads start es seen.judging.in_range fewer count counts needed P law (omega (arith, enough-then, same)))
