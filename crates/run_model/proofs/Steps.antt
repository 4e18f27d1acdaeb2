-- What one event leaves unchanged.
use Rattle.std.proofs.Common.{◌≡◌, ℕ, List, IsTrue, false, refl, arith}
use Rattle.std.proofs.lemmas.Grind.{common_steps}
use Rattle.std.proofs.lemmas.Bool.{cond_both}
use Rattle.std.specs.Prelude.{is_some}
use Rattle.link_model.specs.topology.Network.{Network, Edge}
use Rattle.run_model.specs.World.{World}
use Rattle.run_model.specs.SameFrame.{IsSameFrame}
use Rattle.run_model.specs.Step.{refusal, step, changed, handed_over}
use Rattle.run_model.specs.Run.{is_damage}
use Rattle.run_model.specs.declared.event.Event.{Event}
use Rattle.link_model.specs.declared.item.Item.{Item}

-- a refused event changes nothing
pub refused-stays : (w : World) (e : Event) → IsTrue (is_some (refusal w e)) → step w e ≡ w
refused-stays w e r = grind (arith, common_steps)

handing-network : (w : World) (u v : ℕ) (items : List Item) → (handed_over w u v items).net ≡ w.net
handing-network w u v items = grind (arith, common_steps)

-- an event that is no damage leaves the network unchanged
pub step-network : (w : World) (e : Event) → is_damage w e ≡ false → (step w e).net ≡ w.net
step-network w e fine = grind (arith, common_steps, handing-network)

-- ---- the nodes, the root, the capacity and the lease

-- whatever the edges, these are the same
other-edges : (net : Network) (edges : List Edge) → IsSameFrame net (record net { edges = edges })
other-edges net edges = record { nodes = refl; root = refl; capacity = refl; lease = refl }

changed-frame : (w : World) (e : Event) → IsSameFrame w.net (changed w e).net
changed-frame w e = record {
  nodes = grind (arith, common_steps, handing-network);
  root = grind (arith, common_steps, handing-network);
  capacity = grind (arith, common_steps, handing-network);
  lease = grind (arith, common_steps, handing-network);
}

-- every event leaves them as they are
pub step-frame : (w : World) (e : Event) → IsSameFrame w.net (step w e).net
step-frame w e =
    cond_both (is_some (refusal w e)) w (changed w e) (λ (x : World). IsSameFrame w.net x.net) (λ _. other-edges w.net w.net.edges) (λ _. changed-frame w e)
