-- A node's own distance and parent change only in its ticks.
use Rattle.std.proofs.Common.{◌≡◌, ℕ, ◌<◌, ◌⊎◌, true, false, Option, arith, ◌==◌}
use Rattle.std.proofs.lemmas.Grind.{common_steps}
use Rattle.topology.specs.Network.{neighbours_of}
use Rattle.bfs_tree.specs.Step.{new_distance, new_parent}
use Rattle.run_model.specs.node_core.Step.{copied_distance}
use Rattle.run_model.specs.World.{World}
use Rattle.run_model.specs.Step.{step}
use Rattle.run_model.specs.Run.{is_damage}
use Rattle.run_model.specs.Sweep.{is_full_tick}
use Rattle.run_model.specs.declared.event.Event.{Event}

-- the distance that a tick of v computes in a world
abbrev pub next_distance : World → ℕ → ℕ
next_distance w v = new_distance (v == w.net.root) w.net.nodes (copied_distance (w.node v)) (neighbours_of w.net v)

abbrev pub next_parent : World → ℕ → Option ℕ
next_parent w v = new_parent (v == w.net.root) (copied_distance (w.node v)) (neighbours_of w.net v)

pub own-distance : (w : World) (e : Event) (v : ℕ) → is_damage w e ≡ false
    → (((step w e).node v).distance ≡ (w.node v).distance) ⊎ (((step w e).node v).distance ≡ next_distance w v)
own-distance w e v d = grind (arith, common_steps)

pub own-parent : (w : World) (e : Event) (v : ℕ) → is_damage w e ≡ false
    → (((step w e).node v).parent ≡ (w.node v).parent) ⊎ (((step w e).node v).parent ≡ next_parent w v)
own-parent w e v d = grind (arith, common_steps)

pub tick-distance : (w : World) (e : Event) (v : ℕ) → v < w.net.nodes → is_full_tick w e v ≡ true → ((step w e).node v).distance ≡ next_distance w v
tick-distance w e v b t = grind (arith, common_steps)

pub tick-parent : (w : World) (e : Event) (v : ℕ) → v < w.net.nodes → is_full_tick w e v ≡ true → ((step w e).node v).parent ≡ next_parent w v
tick-parent w e v b t = grind (arith, common_steps)
