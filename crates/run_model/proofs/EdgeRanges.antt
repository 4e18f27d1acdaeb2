-- A world in range has each edge in range.
use Rattle.std.proofs.Common.{◌≡◌, ℕ, List, true, IsTrue, arith}
use Rattle.std.proofs.lemmas.Grind.{common_steps}
use Rattle.std.proofs.lemmas.Bool.Decides.{nat_tests}
use Rattle.std.proofs.lemmas.List.Elements.{All-weaker, recursion_from_All}
use Rattle.std.specs.List.{AllByRecursion}
use Rattle.link_model.specs.topology.Network.{Network}
use Rattle.link_model.specs.topology.Ranges.{ranges_of}
use Rattle.link_model.specs.topology.Laws.{NeighboursAreJoined}
use Rattle.link_model.specs.declared.item.Item.{Item}
use Rattle.link_model.specs.declared.item.Item.TheVariants.{Frame, Noise}
use Rattle.node_core.specs.data_link.Port.{PortState, port_fits}
use Rattle.node_core.specs.data_link.Edge.{modulus_of, IsPortBelow, IsItemBelow, IsEdgeInRange}
use Rattle.run_model.specs.World.{World, IsWorldInRange, item_fits}
use Rattle.run_model.specs.Project.{edge_of}
use Rattle.run_model.proofs.Joined.{IsEdge}
use Rattle.run_model.proofs.Ranges.{AllFit, port-in_range}

port-below : (net : Network) (p : PortState) → port_fits (ranges_of net) p ≡ true → IsPortBelow (modulus_of net.capacity) p
port-below net p fits = (grind (arith, common_steps, nat_tests), grind (arith, common_steps, nat_tests))

item-below : (net : Network) (item : Item) → IsTrue (item_fits (ranges_of net) item) → IsItemBelow (modulus_of net.capacity) item
item-below net Noise fits = tt
item-below net (Frame f) fits = (grind (arith, common_steps, nat_tests), grind (arith, common_steps, nat_tests))

items-below : (w : World) (items : List Item) → AllFit w items → AllByRecursion (IsItemBelow (modulus_of w.net.capacity)) items
items-below w items fit =
    recursion_from_All (IsItemBelow (modulus_of w.net.capacity)) items
    (All-weaker (λ item. IsTrue (item_fits (ranges_of w.net) item)) (IsItemBelow (modulus_of w.net.capacity)) (item-below w.net) items fit)

pub edge-range : NeighboursAreJoined → (w : World) (u v : ℕ) → IsWorldInRange w → IsEdge w.net u v → IsEdgeInRange w.net.capacity (edge_of w u v)
edge-range near w u v range pair = record {
  near = port-below w.net ((w.node u).port v) (port-in_range near w u v range (record { first = pair.first; second = pair.second; joined = pair.joined }));
  far = port-below w.net ((w.node v).port u) (port-in_range near w v u range (record { first = pair.second; second = pair.first; joined = pair.back }));
  out = items-below w (w.link u v) (range.items u v pair.joined);
  back = items-below w (w.link v u) (range.items v u pair.back);
  out_fits = range.capacity u v pair.joined;
  back_fits = range.capacity v u pair.back;
}
