-- A run of the world is a run of each edge.
use Rattle.std.proofs.Common.{◌≡◌, ◌≢◌, ℕ, zero, suc, List, [], ◌∷◌, ◌++◌, false, map, refl, sym, ◌∙◌, ap, subst, arith}
use Rattle.std.proofs.lemmas.Grind.{common_steps}
use Rattle.std.proofs.lemmas.Bool.{or_parts}
use Rattle.link_model.specs.declared.item.Item.TheVariants.{Frame}
use Rattle.node_core.specs.data_link.Port.{frame_of}
use Rattle.node_core.specs.data_link.Edge.{edge_step, edge_run}
use Rattle.node_core.specs.data_link.Sweep as edge
use Rattle.link_model.specs.Acts.{list_after}
use Rattle.node_core.specs.data_link.Sweep.{act_out, act_back, is_out_renewed, is_back_renewed}
use Rattle.run_model.specs.World.{World, IsWorldInRange}
use Rattle.run_model.specs.Step.{step}
use Rattle.run_model.specs.Run.{run, is_damage, has_damage, IsUndamaged}
use Rattle.run_model.specs.Sweep.{link_act, is_renewed, IsSweep, Sweeps}
use Rattle.run_model.specs.Project.{edge_of, edge_event, edge_events}
use Rattle.run_model.specs.declared.event.Event.{Event}
use Rattle.run_model.proofs.Joined.{IsEdge}
use Rattle.run_model.proofs.Steps.{step-network}
use Rattle.run_model.proofs.Runs.{run-network}
use Rattle.run_model.specs.Laws.{RangesStay}
use Rattle.run_model.proofs.EdgeSteps.{one-event}
use Rattle.run_model.proofs.LinkSteps.{one-link}

pub edge-steps : (w : World) (e : Event) (u v : ℕ) → IsWorldInRange w → IsEdge w.net u v → is_damage w e ≡ false
    → edge_of (step w e) u v ≡ edge_step w.net.capacity (edge_of w u v) (edge_event w e u v)
edge-steps w e u v range pair fine = one-event w u v pair.apart pair.first pair.second pair.joined pair.back range e fine

pub edge-runs : RangesStay → (w : World) (es : List Event) (u v : ℕ) → IsWorldInRange w → IsEdge w.net u v → IsUndamaged w es
    → edge_of (run w es) u v ≡ edge_run w.net.capacity (edge_of w u v) (edge_events w es u v)
edge-runs stay w [] u v range pair fine = refl
edge-runs stay w (e ∷ es) u v range pair fine =
    let parts = or_parts (is_damage w e) (has_damage (step w e) es) fine in
    let same = step-network w e parts.0 in
    let later = edge-runs stay (step w e) es u v (stay w (e ∷ []) range) (subst (λ net. IsEdge net u v) (sym same) pair) parts.1 in
    later
    ∙ ap (λ net. edge_run net.capacity (edge_of (step w e) u v) (edge_events (step w e) es u v)) same
    ∙ ap (λ s. edge_run w.net.capacity s (edge_events (step w e) es u v)) (edge-steps w e u v range pair parts.0)

-- ---- what an edge's events do to its links

pub act-out : (w : World) (e : Event) (u v : ℕ) → u ≢ v → act_out (edge_event w e u v) ≡ link_act u v e
act-out w e u v apart = grind (arith, common_steps)

pub act-back : (w : World) (e : Event) (u v : ℕ) → u ≢ v → act_back (edge_event w e u v) ≡ link_act v u e
act-back w e u v apart = grind (arith, common_steps)

acts-out : (w : World) (es : List Event) (u v : ℕ) → u ≢ v → map act_out (edge_events w es u v) ≡ map (link_act u v) es
acts-out w [] u v apart = refl
acts-out w (e ∷ es) u v apart =
    ap (λ a. a ∷ map act_out (edge_events (step w e) es u v)) (act-out w e u v apart) ∙ ap (λ l. link_act u v e ∷ l) (acts-out (step w e) es u v apart)

acts-back : (w : World) (es : List Event) (u v : ℕ) → u ≢ v → map act_back (edge_events w es u v) ≡ map (link_act v u) es
acts-back w [] u v apart = refl
acts-back w (e ∷ es) u v apart =
    ap (λ a. a ∷ map act_back (edge_events (step w e) es u v)) (act-back w e u v apart) ∙ ap (λ l. link_act v u e ∷ l) (acts-back (step w e) es u v apart)

pub renewed-out : (w : World) (es : List Event) (u v : ℕ) → u ≢ v → is_renewed w es u v ≡ is_out_renewed w.net.capacity (edge_of w u v) (edge_events w es u v)
renewed-out w es u v apart = ap (λ acts. edge.is_renewed w.net.capacity acts (w.link u v)) (sym (acts-out w es u v apart))

pub renewed-back : (w : World) (es : List Event) (u v : ℕ) → u ≢ v → is_renewed w es v u ≡ is_back_renewed w.net.capacity (edge_of w u v) (edge_events w es u v)
renewed-back w es u v apart = ap (λ acts. edge.is_renewed w.net.capacity acts (w.link v u)) (sym (acts-back w es u v apart))

-- what an event does to the items from u to v
pub link-after : (w : World) (e : Event) (u v : ℕ) → IsEdge w.net u v → is_damage w e ≡ false
    → (step w e).link u v ≡ list_after w.net.capacity (Frame (frame_of ((w.node u).port v))) (link_act u v e) (w.link u v)
link-after w e u v pair fine = one-link w u v pair.apart pair.first pair.second pair.joined e fine

-- ---- sweeps of the world are sweeps of each edge

edge-events_join : (w : World) (xs ys : List Event) (u v : ℕ) → edge_events w (xs ++ ys) u v ≡ edge_events w xs u v ++ edge_events (run w xs) ys u v
edge-events_join w [] ys u v = refl
edge-events_join w (e ∷ xs) ys u v = ap (λ l. edge_event w e u v ∷ l) (edge-events_join (step w e) xs ys u v)

pub sweep-edge : (w : World) (es : List Event) (u v : ℕ) → IsEdge w.net u v → IsSweep w es
    → edge.IsSweep w.net.capacity (edge_of w u v) (edge_events w es u v)
sweep-edge w es u v pair sweep = record {
  out = sym (renewed-out w es u v pair.apart) ∙ sweep.renewed u v pair.joined;
  back = sym (renewed-back w es u v pair.apart) ∙ sweep.renewed v u pair.back;
}

pub sweeps-edge : RangesStay → (w : World) (r : ℕ) (es : List Event) (u v : ℕ) → IsWorldInRange w → IsEdge w.net u v → Sweeps w r es
    → edge.Sweeps w.net.capacity (edge_of w u v) r (edge_events w es u v)
sweeps-edge stay w zero es u v range pair s = tt
sweeps-edge stay w (suc r) es u v range pair (first, rest, e, sweep, s) =
    let same = run-network w first sweep.undamaged in
    let later = sweeps-edge stay (run w first) r rest u v (stay w first range) (subst (λ net. IsEdge net u v) (sym same) pair) s in (
      edge_events w first u v,
      edge_events (run w first) rest u v,
      ap (λ l. edge_events w l u v) e ∙ edge-events_join w first rest u v,
      sweep-edge w first u v pair sweep,
      subst (λ s. edge.Sweeps w.net.capacity s r (edge_events (run w first) rest u v)) (edge-runs stay w first u v range pair sweep.undamaged)
          (subst (λ net. edge.Sweeps net.capacity (edge_of (run w first) u v) r (edge_events (run w first) rest u v)) same later),
    )
