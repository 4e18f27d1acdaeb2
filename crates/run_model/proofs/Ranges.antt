-- A run from a world in range leads to one in range.
use Rattle.std.proofs.Common.{◌≡◌, ℕ, ◌<◌, ◌≤◌, suc, List, [], ◌∷◌, ◌++◌, Bool, true, false, IsTrue, Option, Some, None, length, take, drop, refl, sym, subst, arith, inl, inr}
use Rattle.std.proofs.lemmas.Grind.{common_steps}
use Rattle.std.proofs.lemmas.Bool.{cases_eq, cond-true, cond-false, cond_both, eq-eqb, ne_eqb}
use Rattle.std.proofs.lemmas.Bool.Decides.{nat_tests}
use Rattle.std.proofs.lemmas.List.Elements.{All-nil, All-tail, All-weaker, All-append, All-push, All-take, All-drop, All-contains, All-contains_itself}
use Rattle.std.specs.Prelude.{◌==◌, ◌&&◌, is_some}
use Rattle.std.specs.List.{All, Contains, remove}
use Rattle.link_model.specs.topology.At.{at}
use Rattle.link_model.specs.topology.Network.{Network, are_joined, neighbours_of, ring_of, IsAcceptedNetwork}
use Rattle.link_model.specs.topology.Ranges.{ranges_of, frame_fits}
use Rattle.link_model.specs.topology.Laws.{NeighboursAreJoined}
use Rattle.link_model.specs.topology.declared.frame.Ranges.{Ranges}
use Rattle.link_model.specs.declared.item.Item.{Item}
use Rattle.link_model.specs.declared.item.Item.TheVariants.{Frame}
use Rattle.node_core.specs.data_link.Port.{PortState, port_fits, frame_of, default_port}
use Rattle.node_core.specs.lock_desk.Desk.{DeskState, desk_fits, no_desk}
use Rattle.node_core.specs.Site.{site_of}
use Rattle.node_core.specs.State.{LocalState, IsNodeInRange}
use Rattle.node_core.specs.Step.{taken}
use Rattle.run_model.specs.World.{World, IsWorldInRange, item_fits, site, with_node, with_link}
use Rattle.run_model.specs.Start.{world_with_spares}
use Rattle.run_model.specs.Step.{first_fault, unless, link_fault, has_room, sent, handed_over, with_port, with_desk}
use Rattle.run_model.specs.declared.event.EventFault.{EventFault}
use Rattle.run_model.proofs.NodeRanges.{KeepRanges, IsSiteSound, at-fits, taken-range}

pub site-sound : NeighboursAreJoined → (net : Network) (v : ℕ) → IsAcceptedNetwork net → IsSiteSound (site_of net v)
site-sound near net v ok = record {
  ring = omega arith;
  neighbours = All-weaker (Contains (neighbours_of net v)) (λ w. w < net.nodes) (λ w c. ((near net v w).0 c).0) (neighbours_of net v)
      (All-contains_itself (neighbours_of net v));
}

-- ---- where runs start

all-same : (P : Type 0) → P → (ws : List ℕ) → All (λ w. P) ws
all-same P p ws = λ k d l. p

pub default-fits : (net : Network) → port_fits (ranges_of net) (default_port (ranges_of net)) ≡ true
default-fits net = grind (arith, common_steps, nat_tests)

no-desk_fits : (lease : ℕ) → desk_fits lease no_desk ≡ true
no-desk_fits lease = grind (arith, common_steps, nat_tests)

-- the world in which nothing has happened is in range
pub start-range : (net : Network) (pairs : ℕ) → IsAcceptedNetwork net → IsWorldInRange (world_with_spares net pairs)
start-range net pairs ok = record {
  network = ok;
  nodes = λ v l. record {
    distance = omega arith;
    parent = refl;
    ports = all-same (port_fits (ranges_of net) (default_port (ranges_of net)) ≡ true) (default-fits net) (neighbours_of net v);
    values = all-same (0 < ring_of net) (omega arith) (neighbours_of net v);
    desk = no-desk_fits net.lease;
  };
  capacity = λ u v joined. omega arith;
  items = λ u v joined. All-nil (λ item. IsTrue (item_fits (ranges_of net) item));
}

-- ---- one node, or one link, is written

pub node-range : (w : World) (v : ℕ) (s : LocalState) → IsWorldInRange w → (v < w.net.nodes → IsNodeInRange (site w v) s) → IsWorldInRange (with_node w v s)
node-range w v s range new = record {
  network = range.network;
  nodes = λ u l. elim (cases_eq u v) [
    | inl e ↦ rw (cond-true (u == v) s (w.node u) (eq-eqb u v e)) (subst (λ x. IsNodeInRange (site w x) s) (sym e) (new (subst (λ x. x < w.net.nodes) e l)))
    | inr ne ↦ rw (cond-false (u == v) s (w.node u) (ne_eqb u v ne)) (range.nodes u l)
  ];
  capacity = range.capacity;
  items = range.items;
}

-- the items fit the network
abbrev pub AllFit : World → List Item → Type 0
AllFit w items = All (λ item. IsTrue (item_fits (ranges_of w.net) item)) items

pub link-range : (w : World) (u v : ℕ) (items : List Item) → IsWorldInRange w → length items ≤ w.net.capacity → AllFit w items → IsWorldInRange (with_link w u v items)
link-range w u v items range few fit = record {
  network = range.network;
  nodes = range.nodes;
  capacity = λ i j joined. cond_both ((i == u) && (j == v)) items (w.link i j) (λ xs. length xs ≤ w.net.capacity) (λ _. few) (λ _. range.capacity i j joined);
  items = λ i j joined. cond_both ((i == u) && (j == v)) items (w.link i j) (AllFit w) (λ _. fit) (λ _. range.items i j joined);
}

pub port-range : (w : World) (v u : ℕ) (p : PortState) → IsWorldInRange w → (port_fits (ranges_of w.net) ((w.node v).port u) ≡ true → port_fits (ranges_of w.net) p ≡ true)
    → IsWorldInRange (with_port w v u p)
port-range w v u p range new = node-range w v (record (w.node v) { port = at (w.node v).port u p }) range (λ l.
    let old = range.nodes v l in record {
      distance = old.distance;
      parent = old.parent;
      ports = at-fits (ranges_of w.net) (neighbours_of w.net v) (w.node v).port u p old.ports new;
      values = old.values;
      desk = old.desk;
    })

pub desk-range : (w : World) (v : ℕ) (d : DeskState) → IsWorldInRange w → (desk_fits w.net.lease (w.node v).desk ≡ true → desk_fits w.net.lease d ≡ true)
    → IsWorldInRange (with_desk w v d)
desk-range w v d range new = node-range w v (record (w.node v) { desk = d }) range (λ l.
    let old = range.nodes v l in record {
      distance = old.distance;
      parent = old.parent;
      ports = old.ports;
      values = old.values;
      desk = new old.desk;
    })

-- ---- what is known if an event is not refused

-- the two are nodes, and joined
pub record IsLinked (w : World) (u v : ℕ) : Type 0 where
  pub first : u < w.net.nodes
  pub second : v < w.net.nodes
  pub joined : IsTrue (are_joined w.net.edges u v)

pub linked : (w : World) (u v : ℕ) → is_some (link_fault w u v) ≡ false → IsLinked w u v
linked w u v fine = record {
  first = grind (arith, common_steps, nat_tests);
  second = grind (arith, common_steps, nat_tests);
  joined = grind (arith, common_steps, nat_tests);
}

-- the first refusal is none if neither refuses
pub neither : (first later : Option EventFault) → is_some (first_fault first later) ≡ false → (is_some first ≡ false) × (is_some later ≡ false)
neither None later h = (refl, h)
neither (Some fault) later h = absurd (grind arith)

pub held : (test : Bool) (fault : EventFault) → is_some (unless test fault) ≡ false → test ≡ true
held true fault h = refl
held false fault h = absurd (grind arith)

-- ---- each event

frame-fits : (r : Ranges) (p : PortState) → port_fits r p ≡ true → frame_fits r (frame_of p) ≡ true
frame-fits r p fits = grind (arith, common_steps, nat_tests)

-- the port of a node to a neighbour is in range
pub port-in_range : NeighboursAreJoined → (w : World) (u v : ℕ) → IsWorldInRange w → IsLinked w u v → port_fits (ranges_of w.net) ((w.node u).port v) ≡ true
port-in_range near w u v range l =
    All-contains (λ x. IsTrue (port_fits (ranges_of w.net) ((w.node u).port x))) (neighbours_of w.net u) v (range.nodes u l.first).ports
    ((near w.net u v).1 (l.second, l.joined))

pub sent-range : NeighboursAreJoined → (w : World) (u v : ℕ) → IsWorldInRange w → IsLinked w u v → IsWorldInRange (sent w u v)
sent-range near w u v range l =
    let frame = Frame (frame_of ((w.node u).port v)) in
    cond_both (has_room w u v) (with_link w u v (w.link u v ++ frame ∷ [])) w IsWorldInRange
    (λ room. link-range w u v (w.link u v ++ frame ∷ []) range (grind (arith, common_steps, nat_tests))
    (All-push (λ item. IsTrue (item_fits (ranges_of w.net) item)) (w.link u v) frame (range.items u v l.joined)
    (frame-fits (ranges_of w.net) ((w.node u).port v) (port-in_range near w u v range l))))
    (λ _. range)

pub handed-range : KeepRanges → (w : World) (u v : ℕ) (items : List Item) → IsWorldInRange w → length items ≤ w.net.capacity → AllFit w items
    → IsWorldInRange (handed_over w u v items)
handed-range keep w u v [] range few fit = range
handed-range keep w u v (item ∷ rest) range few fit =
    let P = λ (item : Item). IsTrue (item_fits (ranges_of w.net) item) in
    let s = taken (site w v) u item (w.node v) in
    link-range (with_node w v s) u v rest
    (node-range w v s range (λ l. taken-range keep (site w v) (w.node v) u item (site-sound keep.near w.net v range.network) (range.nodes v l)))
    (omega arith) (All-tail P item rest fit)

fewer-items : (items : List Item) (i : ℕ) → length (remove items i) ≤ length items
fewer-items items i = grind (arith, common_steps)

pub lost-range : (w : World) (u v i : ℕ) → IsWorldInRange w → IsLinked w u v → IsWorldInRange (with_link w u v (remove (w.link u v) i))
lost-range w u v i range l =
    let P = λ (item : Item). IsTrue (item_fits (ranges_of w.net) item) in
    let fit = range.items u v l.joined in
    let few = range.capacity u v l.joined in
    let fewer = fewer-items (w.link u v) i in
    link-range w u v (remove (w.link u v) i) range (omega arith)
    (All-append P (take i (w.link u v)) (drop (suc i) (w.link u v)) (All-take P i (w.link u v) fit) (All-drop P (suc i) (w.link u v) fit))
