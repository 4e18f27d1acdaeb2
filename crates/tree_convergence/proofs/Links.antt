-- Links of a world, each by the law of one edge.
use Rattle.std.proofs.Common.{◌≡◌, ℕ, ◌+◌, ◌*◌, refl, inl, inr, Bool, true, List, [], ◌∷◌, sym, ◌∙◌, ap, subst, arith, IsTrue}
use Rattle.std.proofs.lemmas.Grind.{common_steps}
use Rattle.std.specs.List.{AllByRecursion}
use Rattle.topology.specs.Network.{Network, are_joined}
use Rattle.topology.specs.Laws as topology
use Rattle.topology.specs.declared.frame.Payload.{Payload}
use Rattle.run_model.specs.data_link.Edge.{EdgeState, EdgeEvent, TakeBack, IsEdgeInRange, IsStable, edge_run, edge_step}
use Rattle.run_model.specs.data_link.Sweep.{PresentPasses}
use Rattle.run_model.specs.data_link.Sweep as edge
use Rattle.run_model.specs.data_link.Refreshing.{StagedPasses, SweepCopiesStaged}
use Rattle.run_model.specs.data_link.SixSweeps.{StableAfterSixSweeps}
use Rattle.run_model.specs.data_link.Laws as data_link
use Rattle.run_model.specs.World.{World, IsWorldInRange}
use Rattle.run_model.specs.Step.{step}
use Rattle.run_model.specs.Run.{run, IsUndamaged}
use Rattle.run_model.specs.Sweep.{Sweeps}
use Rattle.run_model.specs.Links.{AreLinksStable}
use Rattle.run_model.specs.Project.{edge_of, present, edge_event, edge_events}
use Rattle.run_model.specs.Laws.{EdgesAreInRange, EdgeSteps, EdgeRuns, EdgeIsRenewed, EdgeSweeps, NetworkStays, RangesStay}
use Rattle.run_model.specs.declared.event.Event.{Event}
use Rattle.tree_convergence.specs.Present.{AlwaysPresent, AlwaysStaged}
use Rattle.run_model.proofs.Along.{undamaged-front, undamaged-one}
use Rattle.tree_convergence.specs.Laws.{LinksStayStable, LinksTurnStable, LinksTurnStableInSix, NumbersMove, StagedIsPresent, CopyIsStaged, PayloadsTurnFresh, StagedTurnsFresh, CopyTurnsStaged}

-- what is handed in is present
handed-in : (test : Payload → Bool) (w : World) (e : Event) (u v : ℕ) → test (present w u v) ≡ true → PresentPasses test (edge_event w e u v)
handed-in test w e u v t = grind (arith, common_steps)

-- so it is throughout a run
all-handed-in : (test : Payload → Bool) (w : World) (es : List Event) (u v : ℕ) → AlwaysPresent test w es u v → AllByRecursion (PresentPasses test) (edge_events w es u v)
all-handed-in test w [] u v p = tt
all-handed-in test w (e ∷ es) u v (p, ps) = (handed-in test w e u v p, all-handed-in test (step w e) es u v ps)

-- a payload that an event hands in for the near end is the present one
present-handed : (w : World) (e : Event) (u v : ℕ) (p : Payload) → edge_event w e u v ≡ TakeBack p → p ≡ present w u v
present-handed w e u v p h = grind (arith, common_steps)

pub stay-stable : NetworkStays → EdgesAreInRange → EdgeSteps → data_link.StableStays → LinksStayStable
stay-stable net-stays in-range edge-steps law w e r d s u v j =
    let net : (step w e).net ≡ w.net = net-stays w (e ∷ []) (undamaged-one w e d) in
    let joined : IsTrue (are_joined w.net.edges u v) = subst (λ n. IsTrue (are_joined n.edges u v)) net j in
    subst (λ n. IsStable n.capacity (edge_of (step w e) u v)) (sym net)
    (subst (λ s. IsStable w.net.capacity s) (sym (edge-steps w e u v r joined d))
    (law w.net.capacity (edge_of w u v) (edge_event w e u v) (in-range w u v r joined) (s u v joined)))

-- what sweeps do to one edge, as many sweeps of the world do to each edge
module _ (net-stays : NetworkStays) (in-range : EdgesAreInRange) (edge-runs : EdgeRuns) (edge-sweeps : EdgeSweeps) where
  stable-after : (needed : ℕ → ℕ)
      → ((capacity : ℕ) (s : EdgeState) (es : List EdgeEvent) → IsEdgeInRange capacity s → edge.Sweeps capacity s (needed capacity) es → IsStable capacity (edge_run capacity s es))
      → (w : World) (es : List Event) → IsWorldInRange w → IsUndamaged w es → Sweeps w (needed w.net.capacity) es → AreLinksStable (run w es)
  stable-after needed law w es r d s u v j =
      let net : (run w es).net ≡ w.net = net-stays w es d in
      let joined : IsTrue (are_joined w.net.edges u v) = subst (λ n. IsTrue (are_joined n.edges u v)) net j in
      subst (λ n. IsStable n.capacity (edge_of (run w es) u v)) (sym net)
      (subst (λ s. IsStable w.net.capacity s) (sym (edge-runs w es u v r joined d))
      (law w.net.capacity (edge_of w u v) (edge_events w es u v) (in-range w u v r joined) (edge-sweeps w (needed w.net.capacity) es u v r joined s)))

  pub turn-stable : data_link.StableAfterSweeps → LinksTurnStable
  turn-stable law = stable-after (λ c. 4 * (c + 1)) law

  pub turn-stable_in_six : StableAfterSixSweeps → LinksTurnStableInSix
  turn-stable_in_six law = stable-after (λ c. 6) law

pub numbers-move : EdgeSweeps → data_link.SweepsMove → NumbersMove
numbers-move edge-sweeps law w es u v r j sweeps =
    law w.net.capacity 1 2 (edge_of w u v) (edge_events w es u v) (omega arith) (edge-sweeps w 2 es u v r j sweeps)

pub staged-present : EdgeSteps → data_link.StagedIsPresent → StagedIsPresent
staged-present edge-steps law w e u v r d j =
    let is : edge_of (step w e) u v ≡ edge_step w.net.capacity (edge_of w u v) (edge_event w e u v) = edge-steps w e u v r j d in
    let near : (((step w e).node u).port v).staged ≡ (edge_step w.net.capacity (edge_of w u v) (edge_event w e u v)).near.staged = ap (λ s. s.near.staged) is in
    elim (law w.net.capacity (edge_of w u v) (edge_event w e u v)) [
      | inl same ↦ inl (near ∙ same)
      | inr new ↦ inr (near ∙ new.2 ∙ present-handed w e u v new.0 new.1)
    ]

pub copy-staged : EdgesAreInRange → EdgeSteps → data_link.CopyIsStaged → CopyIsStaged
copy-staged in-range edge-steps law w e u v r d j s =
    let is : edge_of (step w e) u v ≡ edge_step w.net.capacity (edge_of w u v) (edge_event w e u v) = edge-steps w e u v r j d in
    let far : (((step w e).node v).port u).copy ≡ (edge_step w.net.capacity (edge_of w u v) (edge_event w e u v)).far.copy = ap (λ s. s.far.copy) is in
    elim (law w.net.capacity (edge_of w u v) (edge_event w e u v) (in-range w u v r j) s) [
      | inl same ↦ inl (far ∙ same)
      | inr new ↦ inr (far ∙ new)
    ]

pub turn-fresh : EdgesAreInRange → EdgeRuns → EdgeSweeps → data_link.ThreeSweepsRefresh → PayloadsTurnFresh
turn-fresh in-range edge-runs edge-sweeps law test w es u v r d j s sweeps always =
    let is : edge_of (run w es) u v ≡ edge_run w.net.capacity (edge_of w u v) (edge_events w es u v) = edge-runs w es u v r j d in
    let both = law test w.net.capacity (edge_of w u v) (edge_events w es u v) (in-range w u v r j) s (edge-sweeps w 3 es u v r j sweeps) (all-handed-in test w es u v always) in
    (subst (λ s. test s.near.staged ≡ true) (sym is) both.0, subst (λ s. test s.far.copy ≡ true) (sym is) both.1)

pub staged-fresh : EdgeRuns → EdgeSweeps → data_link.SweepsMove → data_link.MoveRefreshesStaged → StagedTurnsFresh
staged-fresh edge-runs edge-sweeps moves law test w es u v r d j sweeps always =
    let is : edge_of (run w es) u v ≡ edge_run w.net.capacity (edge_of w u v) (edge_events w es u v) = edge-runs w es u v r j d in
    let one = numbers-move edge-sweeps moves w es u v r j sweeps in
    subst (λ s. test s.near.staged ≡ true) (sym is) (law test w.net.capacity (edge_of w u v) (edge_events w es u v) (all-handed-in test w es u v always) one)

module _ (net-stays : NetworkStays) (ranges : RangesStay) (edge-steps : EdgeSteps) (joined-back : topology.JoinedBack) where
  -- what is staged in the world is staged on the edge
  all-staged : (net : Network) (test : Payload → Bool) (w : World) (es : List Event) (u v : ℕ) → w.net ≡ net → IsWorldInRange w → IsUndamaged w es → IsTrue (are_joined net.edges u v)
      → AlwaysStaged test w es u v → StagedPasses test net.capacity (edge_of w u v) (edge_events w es u v)
  all-staged net test w [] u v same r d j p = p
  all-staged net test w (e ∷ es) u v same r d j p =
      let h = undamaged-front w e es d in
      let on : IsTrue (are_joined w.net.edges u v) = subst (λ n. IsTrue (are_joined n.edges u v)) (sym same) j in
      let is : edge_of (step w e) u v ≡ edge_step net.capacity (edge_of w u v) (edge_event w e u v) =
      edge-steps w e u v r on h.0 ∙ ap (λ n. edge_step n.capacity (edge_of w u v) (edge_event w e u v)) same in (
        p.0,
        subst (λ s. StagedPasses test net.capacity s (edge_events (step w e) es u v)) is
            (all-staged net test (step w e) es u v (net-stays w (e ∷ []) (undamaged-one w e h.0) ∙ same) (ranges w (e ∷ []) r) h.1 j p.1),
      )

  pub copy-turns : EdgesAreInRange → EdgeRuns → EdgeIsRenewed → SweepCopiesStaged → CopyTurnsStaged
  copy-turns in-range edge-runs renewed law test w es u v r j s sweep always =
      let is : edge_of (run w es) u v ≡ edge_run w.net.capacity (edge_of w u v) (edge_events w es u v) = edge-runs w es u v r j sweep.undamaged in
      let both = renewed w es u v r j in
      let back : IsTrue (are_joined w.net.edges v u) = joined-back w.net.edges v u ∙ j in
      let whole : edge.IsSweep w.net.capacity (edge_of w u v) (edge_events w es u v) = record { out = sym both.0 ∙ sweep.renewed u v j; back = sym both.1 ∙ sweep.renewed v u back } in
      subst (λ x. test x.far.copy ≡ true) (sym is)
      (law test w.net.capacity (edge_of w u v) (edge_events w es u v) (in-range w u v r j) s whole (all-staged w.net test w es u v refl r sweep.undamaged j always))
