-- Every random step is accepted.
use Rattle.std.proofs.Common.{◌≡◌, ◌∙◌, ap, sym, subst, ℕ, ◌<◌, Bool, true, false, zero, suc, Option, Some, None, [], ◌∷◌, length, get_or, arith, refl, inl, inr}
use Rattle.std.specs.Prelude.{◌⊎◌, ◌==◌, nat_lt, if◌then◌else◌, is_some}
use Rattle.std.proofs.lemmas.Grind.{common_steps}
use Rattle.std.proofs.lemmas.Bool.Decides.{nat_tests}
use Rattle.std.proofs.lemmas.List.Elements.{All-get_or}
use Rattle.rand_pcg.specs.Lcg.{Lcg}
use Rattle.topology.specs.Network.{Edge, Network, IsEdgeBelow, IsAcceptedNetwork}
use Rattle.run_model.specs.World.{World}
use Rattle.run_model.specs.Step.{refusal, step}
use Rattle.run_model.specs.Laws.{NetworkStays}
use Rattle.run_model.specs.declared.event.Event.{Event}
use Rattle.run_model.specs.declared.event.EventFault.{EventFault}
use Rattle.run_model.specs.declared.event.Event.TheVariants.{Send, Take, Lose, Tick, Ask, Leave}
use Rattle.schedules.specs.damage_tool.Draws.{draw}
use Rattle.schedules.specs.damage_tool.Laws.{AreAccepted, DrawsAreBelow}
use Rattle.schedules.specs.Random.{draw_link, draw_arrival, draw_client, draw_step, node_at, admitted, random_steps}
use Rattle.schedules.specs.declared.random.Chances.{Chances}
use Rattle.experiments.specs.Delays.{is_harm}
use Rattle.experiments.proofs.Replays.{step-harmless}

-- the event is no harm, and its node is one of the network's
abbrev pub IsStepOf : Network → Event → Type 0
IsStepOf net e = (is_harm e ≡ false) × (node_at e < net.nodes)

pub net-stays : NetworkStays → (w : World) (e : Event) → IsStepOf w.net e → (step w e).net ≡ w.net
net-stays network w e s = network w (e ∷ []) (step-harmless w e s.0)

tick-accepted : (w : World) (v : ℕ) → v < w.net.nodes → refusal w (Tick v) ≡ None
tick-accepted w v below = grind (arith, common_steps, nat_tests)

none-or-some : (r : Option EventFault) → (r ≡ None) ⊎ ((f : EventFault) × (r ≡ Some f))
none-or-some None = inl refl
none-or-some (Some f) = inr (f, refl)

pub admitted-accepted : (w : World) (e : Event) → IsStepOf w.net e → refusal w (admitted w e) ≡ None
admitted-accepted w e s =
    elim (none-or-some (refusal w e)) [
      | inl ok ↦ ap (λ r. refusal w (if is_some r then Tick (node_at e) else e)) ok ∙ ok
      | inr bad ↦
          ap (λ r. refusal w (if is_some r then Tick (node_at e) else e)) bad.1 ∙ tick-accepted w (node_at e) s.1
    ]

either : (P : Event → Type 0) (b : Bool) (x y : Event) → P x → P y → P (if b then x else y)
either P true x y a c = a
either P false x y a c = c

either-drawn : (P : Event → Type 0) (b : Bool) (x y : Event × Lcg) → P x.0 → P y.0 → P (if b then x else y).0
either-drawn P true x y a c = a
either-drawn P false x y a c = c

pub admitted-step : (w : World) (e : Event) → IsStepOf w.net e → IsStepOf w.net (admitted w e)
admitted-step w e s = either (IsStepOf w.net) (is_some (refusal w e)) (Tick (node_at e)) e (refl, s.1) s

-- ---- what is drawn is a step

end-below : (n : ℕ) (b : Bool) (edge : Edge) → IsEdgeBelow n edge → (if b then edge else (edge.1, edge.0)).1 < n
end-below n true edge below = below.second
end-below n false edge below = below.first

link-below : DrawsAreBelow → (net : Network) → IsAcceptedNetwork net → 0 < length net.edges → (g : Lcg) → (draw_link net g).0.1 < net.nodes
link-below draw_below net ok some g =
    let at = draw (length net.edges) g in
    let way = draw 2 at.1 in
    let edge = get_or net.edges at.0 (0, 0) in
    end-below net.nodes (way.0 == 0) edge
    (All-get_or (IsEdgeBelow net.nodes) net.edges at.0 (0, 0) (draw_below (length net.edges) g some) ok.limits.edges_in)

module _ (draw_below : DrawsAreBelow) (net : Network) (ok : IsAcceptedNetwork net) (some : 0 < length net.edges) where
  arrival-step : (loss : ℕ) (g : Lcg) → IsStepOf net (draw_arrival net loss g).0
  arrival-step loss g =
      let link = draw_link net g in
      let percent = draw 100 link.1 in
      let below : link.0.1 < net.nodes = link-below draw_below net ok some g in
      either (IsStepOf net) (nat_lt percent.0 loss) (Lose link.0.0 link.0.1 0) (Take link.0.0 link.0.1) (refl, below) (refl, below)

  client-step : (g : Lcg) → IsStepOf net (draw_client net g).0
  client-step g =
      let node = draw net.nodes g in
      let ticket = draw 16 node.1 in
      let way = draw 2 ticket.1 in
      let below : node.0 < net.nodes = draw_below net.nodes g (omega (arith, ok.limits.two)) in
      either (IsStepOf net) (way.0 == 0) (Ask node.0 ticket.0) (Leave node.0 ticket.0) (refl, below) (refl, below)

  pub drawn-step : (c : Chances) (g : Lcg) → IsStepOf net (draw_step net c g).0
  drawn-step c g =
      let kind = draw (if c.clients then 4 else 3) g in
      let node = draw net.nodes kind.1 in
      let link = draw_link net kind.1 in
      let below : node.0 < net.nodes = draw_below net.nodes kind.1 (omega (arith, ok.limits.two)) in
      either-drawn (IsStepOf net) (kind.0 == 0) (Tick node.0, node.1)
      (if kind.0 == 1 then (Send link.0.0 link.0.1, link.1) else if kind.0 == 2 then draw_arrival net c.loss kind.1 else draw_client net kind.1)
      (refl, below)
      (either-drawn (IsStepOf net) (kind.0 == 1) (Send link.0.0 link.0.1, link.1)
      (if kind.0 == 2 then draw_arrival net c.loss kind.1 else draw_client net kind.1) (refl, link-below draw_below net ok some kind.1)
      (either-drawn (IsStepOf net) (kind.0 == 2) (draw_arrival net c.loss kind.1) (draw_client net kind.1) (arrival-step c.loss kind.1) (client-step kind.1)))

  pub random-accepted : NetworkStays → (c : Chances) (n : ℕ) (w : World) (g : Lcg) → w.net ≡ net → AreAccepted w (random_steps w c n g)
  random-accepted network c zero w g same = tt
  random-accepted network c (suc n) w g same =
      let e = (draw_step w.net c g).0 in
      let s : IsStepOf w.net e = subst (λ (x : Network). IsStepOf x (draw_step x c g).0) (sym same) (drawn-step c g) in (
        admitted-accepted w e s,
        random-accepted network c n (step w (admitted w e)) (draw_step w.net c g).1 (net-stays network w (admitted w e) (admitted-step w e s) ∙ same),
      )
