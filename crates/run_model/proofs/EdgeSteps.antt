-- An event of the world is one event for each edge.
use Rattle.std.proofs.Common.{◌≡◌, ◌≢◌, ℕ, ◌<◌, ◌≤◌, List, [], ◌∷◌, true, false, IsTrue, length, refl, ◌∙◌, ap, inl, inr, arith}
use Rattle.std.proofs.lemmas.Grind.{common_steps}
use Rattle.std.proofs.lemmas.Bool.{cases_Bool, cond-true, cond-false}
use Rattle.std.proofs.lemmas.List.Elements.{All-head}
use Rattle.std.specs.Prelude.{is_some}
use Rattle.std.specs.List.{remove}
use Rattle.link_model.specs.topology.Network.{are_joined}
use Rattle.link_model.specs.topology.At.{at}
use Rattle.link_model.specs.topology.Ranges.{ranges_of, frame_fits}
use Rattle.link_model.specs.topology.declared.frame.Payload.{Payload}
use Rattle.link_model.specs.declared.item.Item.{Item}
use Rattle.link_model.specs.declared.item.Item.TheVariants.{Frame, Noise}
use Rattle.node_core.specs.data_link.Port.{port_after}
use Rattle.node_core.specs.data_link.Edge.{TakeOut, TakeBack, edge_step}
use Rattle.node_core.specs.Step.{heard}
use Rattle.run_model.specs.World.{World, IsWorldInRange, item_fits, site, with_node, with_link}
use Rattle.run_model.specs.Step.{refusal, step, changed, handed_over}
use Rattle.run_model.specs.Run.{is_damage}
use Rattle.run_model.specs.Project.{edge_of, present, either_way, edge_event}
use Rattle.run_model.specs.declared.event.Event.{Event}
use Rattle.run_model.specs.declared.event.Event.TheVariants.{Send, Take, Lose, Tick, Ask, Leave, Damage}
use Rattle.run_model.specs.declared.event.Harm.{Harm}
use Rattle.run_model.proofs.Steps.{refused-stays}
use Rattle.run_model.proofs.Ranges.{AllFit, linked}

-- there is nothing to remove beyond the end
pub remove-beyond : {X : Type 0} (xs : List X) (i : ℕ) → length xs ≤ i → remove xs i ≡ xs
remove-beyond xs i l = grind (arith, common_steps)

-- v takes one of these items, and may stage p then
abbrev handed_with : Payload → World → ℕ → ℕ → List Item → World
handed_with p w u v [] = w
handed_with p w u v (Noise ∷ rest) = with_link (with_node w v (w.node v)) u v rest
handed_with p w u v (Frame f ∷ rest) =
    with_link (with_node w v (record (w.node v) { port = at (w.node v).port u (port_after (ranges_of w.net).counter ((w.node v).port u) f p) })) u v rest

-- what may be staged is what v says of itself
handed-present : (w : World) (u v : ℕ) (items : List Item) → AllFit w items → handed_over w u v items ≡ handed_with (present w v u) w u v items
handed-present w u v [] fit = refl
handed-present w u v (Noise ∷ rest) fit = refl
handed-present w u v (Frame f ∷ rest) fit =
    let fits : frame_fits (ranges_of w.net) f ≡ true = All-head (λ (item : Item). IsTrue (item_fits (ranges_of w.net) item)) (Frame f) rest fit in
    ap (λ s. with_link (with_node w v s) u v rest) (cond-true (frame_fits (ranges_of w.net) f) (heard (site w v) u f (w.node v)) (w.node v) fits)

-- the same for any payloads
takes-any : (w : World) (u v a b : ℕ) (p q r : Payload) → u ≢ v → (a ≡ u → b ≡ v → p ≡ q) → (a ≡ v → b ≡ u → p ≡ r)
    → edge_of (handed_with p w a b (w.link a b)) u v ≡ edge_step w.net.capacity (edge_of w u v) (either_way u v a b (TakeOut q) (TakeBack r))
takes-any w u v a b p q r apart out back = grind (arith, common_steps)

module _ (w : World) (u v : ℕ) (apart : u ≢ v) (there : u < w.net.nodes) (here : v < w.net.nodes)
    (joined : are_joined w.net.edges u v ≡ true) (back : are_joined w.net.edges v u ≡ true) where
  sends : (a b : ℕ) → edge_of (step w (Send a b)) u v ≡ edge_step w.net.capacity (edge_of w u v) (edge_event w (Send a b) u v)
  sends a b = grind (arith, common_steps)

  takes : IsWorldInRange w → (a b : ℕ) → edge_of (step w (Take a b)) u v ≡ edge_step w.net.capacity (edge_of w u v) (edge_event w (Take a b) u v)
  takes range a b = elim (cases_Bool (is_some (refusal w (Take a b)))) [
    | inl refused ↦ ap (λ x. edge_of x u v) (refused-stays w (Take a b) refused) ∙ grind (arith, common_steps)
    | inr fine ↦
        let moved : step w (Take a b) ≡ handed_with (present w b a) w a b (w.link a b)
        = cond-false (is_some (refusal w (Take a b))) w (changed w (Take a b)) fine ∙ handed-present w a b (w.link a b) (range.items a b (linked w a b fine).joined) in
        ap (λ x. edge_of x u v) moved
        ∙ takes-any w u v a b (present w b a) (present w v u) (present w u v) apart (λ e f. rw (e, f)) (λ e f. rw (e, f))
  ]

  loses : (a b i : ℕ) → edge_of (step w (Lose a b i)) u v ≡ edge_step w.net.capacity (edge_of w u v) (edge_event w (Lose a b i) u v)
  loses a b i = grind (arith, common_steps, remove-beyond)

  ticks : (a : ℕ) → edge_of (step w (Tick a)) u v ≡ edge_step w.net.capacity (edge_of w u v) (edge_event w (Tick a) u v)
  ticks a = grind (arith, common_steps)

  asks : (a t : ℕ) → edge_of (step w (Ask a t)) u v ≡ edge_step w.net.capacity (edge_of w u v) (edge_event w (Ask a t) u v)
  asks a t = grind (arith, common_steps)

  leaves : (a t : ℕ) → edge_of (step w (Leave a t)) u v ≡ edge_step w.net.capacity (edge_of w u v) (edge_event w (Leave a t) u v)
  leaves a t = grind (arith, common_steps)

  damages : (h : Harm) → is_damage w (Damage h) ≡ false → edge_of (step w (Damage h)) u v ≡ edge_step w.net.capacity (edge_of w u v) (edge_event w (Damage h) u v)
  damages h fine = ap (λ x. edge_of x u v) (refused-stays w (Damage h) (grind (arith, common_steps)))

  pub one-event : IsWorldInRange w → (e : Event) → is_damage w e ≡ false → edge_of (step w e) u v ≡ edge_step w.net.capacity (edge_of w u v) (edge_event w e u v)
  one-event range (Send a b) fine = sends a b
  one-event range (Take a b) fine = takes range a b
  one-event range (Lose a b i) fine = loses a b i
  one-event range (Tick a) fine = ticks a
  one-event range (Ask a t) fine = asks a t
  one-event range (Leave a t) fine = leaves a t
  one-event range (Damage h) fine = damages h fine
