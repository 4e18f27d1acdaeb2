-- An event leaves each node and each link unchanged that is not its own.
use Rattle.std.proofs.Common.{◌≡◌, ℕ, List, false, arith}
use Rattle.std.proofs.lemmas.Grind.{common_steps}
use Rattle.link_model.specs.declared.item.Item.{Item}
use Rattle.run_model.specs.World.{World}
use Rattle.run_model.specs.Step.{step, changed, harmed, handed_over}
use Rattle.run_model.specs.Touched.{is_node_touched, is_link_touched, is_node_harmed, is_link_harmed}
use Rattle.run_model.specs.declared.event.Event.{Event}
use Rattle.run_model.specs.declared.event.Event.TheVariants.{Take}
use Rattle.run_model.specs.declared.event.Harm.{Harm}

handed-node : (w : World) (a b : ℕ) (items : List Item) (v : ℕ) → is_node_touched (Take a b) v ≡ false → (handed_over w a b items).node v ≡ w.node v
handed-node w a b items v h = grind (arith, common_steps)

handed-link : (w : World) (a b : ℕ) (items : List Item) (u v : ℕ) → is_link_touched (Take a b) u v ≡ false → (handed_over w a b items).link u v ≡ w.link u v
handed-link w a b items u v h = grind (arith, common_steps)

harmed-node : (w : World) (h : Harm) (v : ℕ) → is_node_harmed h v ≡ false → (harmed w h).node v ≡ w.node v
harmed-node w h v n = grind (arith, common_steps)

harmed-link : (w : World) (h : Harm) (u v : ℕ) → is_link_harmed h u v ≡ false → (harmed w h).link u v ≡ w.link u v
harmed-link w h u v n = grind (arith, common_steps)

changed-node : (w : World) (e : Event) (v : ℕ) → is_node_touched e v ≡ false → (changed w e).node v ≡ w.node v
changed-node w e v h = grind (arith, common_steps, handed-node, harmed-node)

changed-link : (w : World) (e : Event) (u v : ℕ) → is_link_touched e u v ≡ false → (changed w e).link u v ≡ w.link u v
changed-link w e u v h = grind (arith, common_steps, handed-link, harmed-link)

pub own-node : (w : World) (e : Event) (v : ℕ) → is_node_touched e v ≡ false → (step w e).node v ≡ w.node v
own-node w e v h = grind (arith, common_steps, changed-node)

pub own-link : (w : World) (e : Event) (u v : ℕ) → is_link_touched e u v ≡ false → (step w e).link u v ≡ w.link u v
own-link w e u v h = grind (arith, common_steps, changed-link)
