-- After enough sweeps, the mask of visited nodes has the bit of each node.
use Rattle.std.proofs.Common.{◌≡◌, ◌∙◌, sym, ap, subst, ℕ, ◌+◌, ◌-◌, ◌*◌, ◌<◌, ◌≤◌, Bool, ◌&&◌, nat_lt, if◌then◌else◌, IsTrue, List, [], ◌∷◌, ◌++◌, arith, refl}
use Rattle.std.proofs.lemmas.Bool.{or_right}
use Rattle.std.proofs.lemmas.Grind.{common_steps}
use Rattle.topology.specs.Network.{Network, IsAcceptedNetwork, bound_of}
use Rattle.topology.specs.Eccentricity.{SharpWithinBound, sharp_of}
use Rattle.judge.specs.run_model.World.{World, IsWorldInRange}
use Rattle.judge.specs.run_model.Step.{step}
use Rattle.judge.specs.run_model.Run.{run, IsUndamaged}
use Rattle.judge.specs.run_model.Sweep.{Sweeps}
use Rattle.judge.specs.run_model.Count.{Moment, after_damage, IsSweepCount}
use Rattle.judge.specs.run_model.Laws.{FewerSweeps, NetworkStays, FrameStays, MomentLeads}
use Rattle.judge.specs.run_model.Privilege.{is_privileged}
use Rattle.judge.specs.run_model.Visited.{is_privileged_once, is_visited}
use Rattle.judge.specs.run_model.declared.event.Event.{Event}
use Rattle.convergence.specs.Legitimate.{IsLegitimate}
use Rattle.convergence.specs.Service.{LegitimateVisits, EachStateVisits}
use Rattle.judge.specs.Judging.{counted_up_to}
use Rattle.judge.specs.Stretch.{has_bit}
use Rattle.judge.specs.Visited.{AreVisited, AreAllVisited}
use Rattle.world.proofs.Headline.{same-network}

-- if there is no damage, the moment after the last damage is the start
at-start : (w : World) (es : List Event) → IsUndamaged w es → after_damage w es ≡ record { world = w; rest = es }
at-start w [] fine = refl
at-start w (e ∷ es) fine = ap (λ b. if b then after_damage (step w e) es else record { world = w; rest = e ∷ es }) fine

bit-is : (mask v n : ℕ) (visited : Bool) → has_bit mask v ≡ (nat_lt v n && visited) → v < n → IsTrue visited → IsTrue (has_bit mask v)
bit-is mask v n visited same l there = grind (arith, common_steps)

-- a moment of the rest of a list is a moment of the list
once-late : (w : World) (first rest : List Event) (v : ℕ) → IsTrue (is_privileged_once (run w first) rest v) → IsTrue (is_privileged_once w (first ++ rest) v)
once-late w [] rest v once = once
once-late w (e ∷ first) rest v once =
    or_right (is_privileged w v) (is_privileged_once (step w e) (first ++ rest) v) (once-late (step w e) first rest v once)

module _ (fewer : FewerSweeps) (network : NetworkStays) (frame : FrameStays) (leads : MomentLeads) (start : World) (es : List Event) (ok : IsWorldInRange start)
    (sweeps count : ℕ) (counts : IsSweepCount start es count) (same : sweeps ≡ counted_up_to count) (mask : ℕ) (visited : AreVisited start es mask) where
  abbrev after : Moment
  after = after_damage start es

  pub from-legitimate : LegitimateVisits → IsLegitimate start → IsUndamaged start es → 16 * (start.net.nodes - 1) ≤ sweeps → AreAllVisited start.net mask
  from-legitimate law legitimate fine enough v l =
      let here = at-start start es fine in
      let held : Sweeps start count es = subst (λ m. Sweeps m.world count m.rest) here counts.held in
      let once = law start es v ok fine legitimate l (fewer start (16 * (start.net.nodes - 1)) count es (omega (arith, enough, same)) held) in
      bit-is mask v start.net.nodes (is_visited start es v) (visited v) l (subst (λ m. IsTrue (is_privileged_once m.world m.rest v)) (sym here) once)

  module _ (law : EachStateVisits) (net : Network) (net-is : net ≡ (run start es).net) where
    then-is : after.world.net ≡ net
    then-is = same-network network leads start es ok ∙ sym net-is

    pub from-each_state : sharp_of net + 16 * (net.nodes - 1) ≤ sweeps → AreAllVisited net mask
    from-each_state enough v l =
        let led = leads start es ok in
        let few : sharp_of after.world.net + 16 * (after.world.net.nodes - 1) ≤ count = subst (λ n. sharp_of n + 16 * (n.nodes - 1) ≤ count) (sym then-is) (omega (arith, enough, same)) in
        let held = fewer after.world (sharp_of after.world.net + 16 * (after.world.net.nodes - 1)) count after.rest few counts.held in
        let late = law after.world after.rest v led.0 led.1 (subst (λ n. v < n.nodes) (sym then-is) l) held in
        let once = subst (λ xs. IsTrue (is_privileged_once after.world xs v)) (sym late.2) (once-late after.world late.0 late.1 v late.4) in
        let nodes : net.nodes ≡ start.net.nodes = ap (λ n. n.nodes) net-is ∙ (frame start es).nodes in
        bit-is mask v start.net.nodes (is_visited start es v) (visited v) (subst (λ n. v < n) nodes l) once

    pub from-each_bound : SharpWithinBound → bound_of net + 16 * (net.nodes - 1) ≤ sweeps → AreAllVisited net mask
    from-each_bound sharper enough =
        let accepted : IsAcceptedNetwork net = subst IsAcceptedNetwork then-is (leads start es ok).0.network in
        let less = sharper net accepted in
        from-each_state (omega (arith, enough, less))
