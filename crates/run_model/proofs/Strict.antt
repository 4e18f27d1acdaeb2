-- A strict sweep is a sweep: on each link it hands over more items than were there at its start.
use Rattle.std.proofs.Common.{◌≡◌, ◌≢◌, ℕ, ◌+◌, zero, suc, List, [], ◌∷◌, refl, sym, ◌∙◌, ap, subst, arith}
use Rattle.std.proofs.lemmas.Bool.{or_parts}
use Rattle.link_model.specs.topology.Network.{Network, IsAcceptedNetwork}
use Rattle.link_model.specs.topology.Laws.{NeighboursAreJoined}
use Rattle.node_core.specs.data_link.Laws.{StrictSweepIsSweep}
use Rattle.node_core.specs.data_link.Edge.{EdgeState, EdgeEvent, edge_step}
use Rattle.node_core.specs.data_link.Sweep as edge
use Rattle.link_model.specs.declared.item.Item.{Item}
use Rattle.link_model.specs.Acts.{LinkAct}
use Rattle.link_model.specs.HandOver.{takes_item}
use Rattle.node_core.specs.data_link.Sweep.{act_out, act_back, handed_out, handed_back}
use Rattle.run_model.specs.World.{World, IsWorldInRange}
use Rattle.run_model.specs.Step.{step}
use Rattle.run_model.specs.Run.{run, is_damage, has_damage, IsUndamaged}
use Rattle.run_model.specs.Sweep.{IsSweep, Sweeps, link_act}
use Rattle.run_model.specs.Strict.{handed_in, IsStrictSweep, StrictSweeps}
use Rattle.run_model.specs.Project.{edge_of, edge_event, edge_events}
use Rattle.run_model.specs.Laws.{RangesStay}
use Rattle.run_model.specs.declared.event.Event.{Event}
use Rattle.run_model.proofs.Joined.{IsEdge, AreEdges}
use Rattle.run_model.proofs.Steps.{step-network}
use Rattle.run_model.proofs.Edges.{act-out, act-back, edge-steps, renewed-out}
use Rattle.run_model.proofs.EdgeRanges.{edge-range}

-- a stretch hands over on a link what the edge's own events do on one of its two links
module _ (stay : RangesStay) (u v a b : ℕ) (act : EdgeEvent → LinkAct) (link : EdgeState → List Item) (handed : ℕ → EdgeState → List EdgeEvent → ℕ)
    (none : (capacity : ℕ) (s : EdgeState) → handed capacity s [] ≡ 0)
    (more : (capacity : ℕ) (s : EdgeState) (e : EdgeEvent) (es : List EdgeEvent) → handed capacity s (e ∷ es) ≡ takes_item (act e) (link s) + handed capacity (edge_step capacity s e) es)
    (here : (w : World) → link (edge_of w u v) ≡ w.link a b)
    (act-is : (w : World) (e : Event) → u ≢ v → act (edge_event w e u v) ≡ link_act a b e) where
  handed-on : (w : World) (es : List Event) → IsWorldInRange w → IsEdge w.net u v → IsUndamaged w es
      → handed w.net.capacity (edge_of w u v) (edge_events w es u v) ≡ handed_in w es a b
  handed-on w [] range pair fine = none w.net.capacity (edge_of w u v)
  handed-on w (e ∷ es) range pair fine =
      let parts = or_parts (is_damage w e) (has_damage (step w e) es) fine in
      let same = sym (step-network w e parts.0) in
      let later = handed-on (step w e) es (stay w (e ∷ []) range) (subst (λ net. IsEdge net u v) same pair) parts.1 in
      let moved = ap (λ s. handed w.net.capacity s (edge_events (step w e) es u v)) (sym (edge-steps w e u v range pair parts.0)) in
      let kept = ap (λ net. handed net.capacity (edge_of (step w e) u v) (edge_events (step w e) es u v)) same in
      let now = ap (λ x. takes_item x (link (edge_of w u v))) (act-is w e pair.apart) ∙ ap (takes_item (link_act a b e)) (here w) in
      omega (arith, more w.net.capacity (edge_of w u v) (edge_event w e u v) (edge_events (step w e) es u v), now, moved, kept, later)

module _ (strict : StrictSweepIsSweep) (near : NeighboursAreJoined) (edges : (net : Network) → IsAcceptedNetwork net → AreEdges net) (stay : RangesStay) where
  strict-sweep : (w : World) (es : List Event) → IsWorldInRange w → IsStrictSweep w es → IsSweep w es
  strict-sweep w es range sweep = record {
    undamaged = sweep.undamaged;
    ticked = sweep.ticked;
    renewed = λ u v joined.
        let pair = edges w.net range.network u v joined in
        let one : edge.IsStrictSweep w.net.capacity (edge_of w u v) (edge_events w es u v) = record {
          out = omega (arith, sweep.handed u v joined, handed-on stay u v u v act_out (λ s. s.out) handed_out (λ n s. refl) (λ n s x xs. refl) (λ x. refl) (λ x e. act-out x e u v) w es range pair sweep.undamaged);
          back = omega (arith, sweep.handed v u pair.back, handed-on stay u v v u act_back (λ s. s.back) handed_back (λ n s. refl) (λ n s x xs. refl) (λ x. refl) (λ x e. act-back x e u v) w es range pair sweep.undamaged);
        } in
        renewed-out w es u v pair.apart
        ∙ (strict w.net.capacity (edge_of w u v) (edge_events w es u v) (edge-range near w u v range pair) one).out;
  }

  pub strict-sweeps : (w : World) (r : ℕ) (es : List Event) → IsWorldInRange w → StrictSweeps w r es → Sweeps w r es
  strict-sweeps w zero es range s = tt
  strict-sweeps w (suc r) es range (first, rest, e, sweep, s) =
      (first, rest, e, strict-sweep w first range sweep, strict-sweeps (run w first) r rest (stay w first range) s)
