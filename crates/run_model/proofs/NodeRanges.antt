-- What a node does keeps its state in range.
use Rattle.std.proofs.Common.{◌≡◌, ℕ, ◌+◌, ◌<◌, ◌≤◌, List, [], ◌∷◌, true, IsTrue, Option, subst, arith, inl, inr}
use Rattle.std.proofs.lemmas.Grind.{common_steps}
use Rattle.std.proofs.lemmas.Bool.{cases_Bool, cases_eq, cond-true, cond-false, cond_both, eq-eqb, ne_eqb}
use Rattle.std.proofs.lemmas.Bool.Decides.{nat_tests}
use Rattle.std.proofs.lemmas.List.Elements.{All-head, All-tail, All-filter, All-weaker}
use Rattle.std.specs.Prelude.{◌==◌, ◌&&◌, ◌%◌, nat_lt, unwrap_or, is_none, slice_index_or}
use Rattle.std.specs.List.{All, list_any}
use Rattle.link_model.specs.topology.At.{at}
use Rattle.link_model.specs.topology.Ranges.{parent_fits, payload_fits, frame_fits}
use Rattle.link_model.specs.topology.declared.frame.Frame.{Frame}
use Rattle.link_model.specs.topology.declared.frame.Ranges.{Ranges}
use Rattle.link_model.specs.declared.item.Item.{Item}
use Rattle.link_model.specs.declared.item.Item.TheVariants as item
use Rattle.node_core.specs.data_link.Port.{PortState, port_fits, port_after}
use Rattle.node_core.specs.k_state.Machine.{root_moved}
use Rattle.link_model.specs.topology.Laws.{NeighboursAreJoined}
use Rattle.node_core.specs.data_link.PortLaws.{PortStaysInRange}
use Rattle.node_core.specs.bfs_tree.Laws.{StepDistanceFits, StepParentFits}
use Rattle.node_core.specs.lock_desk.Laws.{TicksKeepRanges, AsksKeepRanges, LeavesKeepRanges, LoansKeepRanges}
use Rattle.node_core.specs.euler_ring.Cycle.{is_on, is_tree_neighbour, highest, below, source_for}
use Rattle.node_core.specs.Site.{Site}
use Rattle.node_core.specs.State.{LocalState, IsNodeInRange}
use Rattle.node_core.specs.Machines.{tree_of, ring_for, payload_for, before, is_special, may_move, moved_value, is_node_privileged}
use Rattle.node_core.specs.Step.{heard, taken, copied_distance, recomputed, desk_done, machines_moved, ticked}

-- the laws of the layers below that keep each part of a node in range
pub record KeepRanges : Type 0 where
  pub near : NeighboursAreJoined
  pub ports : PortStaysInRange
  pub distances : StepDistanceFits
  pub parents : StepParentFits
  pub ticks : TicksKeepRanges
  pub asks : AsksKeepRanges
  pub leaves : LeavesKeepRanges
  pub loans : LoansKeepRanges

mod-below : (x q : ℕ) → 0 < q → x % q < q
mod-below x q l = omega arith

fits-from : (r : Ranges) (distance : ℕ) (parent : Option ℕ) (ring : ℕ) → distance ≤ r.nodes → IsTrue (parent_fits r.nodes parent) → ring < r.ring
    → payload_fits r (record { distance = distance; parent = parent; ring = ring }) ≡ true
fits-from r distance parent ring d p x = grind (arith, common_steps, nat_tests)

-- ---- what holds for all neighbours holds for a chosen one

highest-is : (P : ℕ → Type 0) (d : ℕ) (ts : List ℕ) → P d → All P ts → P (unwrap_or (highest ts) d)
highest-is P d [] p all = p
highest-is P d (t ∷ ts) p all = highest-is P t ts (All-head P t ts all) (All-tail P t ts all)

source-is : (P : ℕ → Type 0) (ts : List ℕ) (w : ℕ) → is_on ts w ≡ true → All P ts → P (source_for ts w)
source-is P [] w there all = absurd (grind arith)
source-is P (t ∷ ts) w there all =
    highest-is P (unwrap_or (highest (t ∷ ts)) w) (below w (t ∷ ts)) (highest-is P t ts (All-head P t ts all) (All-tail P t ts all))
    (All-filter (λ u. nat_lt u w) P (t ∷ ts) all)

-- ---- what a node says of itself

-- each neighbour is a node, and there is a ring value
pub record IsSiteSound (site : Site) : Type 0 where
  pub ring : 0 < site.ranges.ring
  pub neighbours : All (λ w. w < site.ranges.nodes) site.neighbours

ring-fits : (site : Site) (s : LocalState) (w : ℕ) → IsSiteSound site → IsNodeInRange site s → ring_for site s w < site.ranges.ring
ring-fits site s w sound range = elim (cases_Bool (list_any (λ t. t == w) (tree_of site s))) [
  | inl there ↦
      let x = source-is (λ t. s.value t < site.ranges.ring) (tree_of site s) w there
      (All-filter (is_tree_neighbour s.parent site.id (λ t. (s.port t).copy.parent)) (λ t. s.value t < site.ranges.ring) site.neighbours range.values) in
      rw (cond-true (list_any (λ t. t == w) (tree_of site s)) (s.value (source_for (tree_of site s) w)) 0 there) x
  | inr out ↦ rw (cond-false (list_any (λ t. t == w) (tree_of site s)) (s.value (source_for (tree_of site s) w)) 0 out) sound.ring
]

pub payload-fits : (site : Site) (s : LocalState) (w : ℕ) → IsSiteSound site → IsNodeInRange site s → payload_fits site.ranges (payload_for site s w) ≡ true
payload-fits site s w sound range =
    fits-from site.ranges s.distance s.parent (ring_for site s w) range.distance range.parent (ring-fits site s w sound range)

-- ---- a node takes an item

pub at-fits : (r : Ranges) (ws : List ℕ) (port : ℕ → PortState) (u : ℕ) (p : PortState) → All (λ w. IsTrue (port_fits r (port w))) ws
    → (port_fits r (port u) ≡ true → port_fits r p ≡ true) → All (λ w. IsTrue (port_fits r (at port u p w))) ws
at-fits r ws port u p all new = All-weaker (λ w. IsTrue (port_fits r (port w))) (λ w. IsTrue (port_fits r (at port u p w))) (λ w old.
    elim (cases_eq w u) [
      | inl e ↦ rw (cond-true (w == u) p (port w) (eq-eqb w u e)) (new (subst (λ x. port_fits r (port x) ≡ true) e old))
      | inr ne ↦ rw (cond-false (w == u) p (port w) (ne_eqb w u ne)) old
    ]) ws all

heard-range : KeepRanges → (site : Site) (s : LocalState) (u : ℕ) (f : Frame) → IsSiteSound site → IsNodeInRange site s → IsTrue (frame_fits site.ranges f)
    → IsNodeInRange site (heard site u f s)
heard-range keep site s u f sound range fits = record {
  distance = range.distance;
  parent = range.parent;
  ports = at-fits site.ranges site.neighbours s.port u (port_after site.ranges.counter (s.port u) f (payload_for site s u)) range.ports
      (λ old. keep.ports site.ranges (s.port u) f (payload_for site s u) old fits (payload-fits site s u sound range));
  values = range.values;
  desk = range.desk;
}

-- for any item, since one out of range changes nothing
pub taken-range : KeepRanges → (site : Site) (s : LocalState) (u : ℕ) (item : Item) → IsSiteSound site → IsNodeInRange site s
    → IsNodeInRange site (taken site u item s)
taken-range keep site s u item.Noise sound range = range
taken-range keep site s u (item.Frame f) sound range = cond_both (frame_fits site.ranges f) (heard site u f s) s (IsNodeInRange site)
    (λ fits. heard-range keep site s u f sound range fits) (λ _. range)

-- ---- a node ticks

pub copy-below : (r : Ranges) (p : PortState) → port_fits r p ≡ true → p.copy.ring < r.ring
copy-below r p fits = grind (arith, common_steps, nat_tests)

moved-below : (site : Site) (s : LocalState) (t : ℕ) → IsSiteSound site → IsTrue (port_fits site.ranges (s.port t)) → moved_value site s t < site.ranges.ring
moved-below site s t sound fits = elim (cases_Bool (is_special site s t)) [
  | inl e ↦ rw (cond-true (is_special site s t) (root_moved (s.value t) site.ranges.ring) (before s t) e) (mod-below (s.value t + 1) site.ranges.ring sound.ring)
  | inr e ↦ rw (cond-false (is_special site s t) (root_moved (s.value t) site.ranges.ring) (before s t) e) (copy-below site.ranges (s.port t) fits)
]

machines-range : (site : Site) (s : LocalState) → IsSiteSound site → IsNodeInRange site s → IsNodeInRange site (machines_moved site s)
machines-range site s sound range = record {
  distance = range.distance;
  parent = range.parent;
  ports = range.ports;
  values = λ k d l.
      let t = slice_index_or site.neighbours k d in
      cond_both (is_none s.desk.lent && (list_any (λ u. u == t) (tree_of site s) && may_move site s t)) (moved_value site s t) (s.value t) (λ x. x < site.ranges.ring)
      (λ _. moved-below site s t sound (range.ports k d l)) (λ _. range.values k d l);
  desk = range.desk;
}

module _ (keep : KeepRanges) where
  recomputed-range : (site : Site) (s : LocalState) → IsSiteSound site → IsNodeInRange site s → IsNodeInRange site (recomputed site s)
  recomputed-range site s sound range = record {
    distance = keep.distances site.is_root site.ranges.nodes (copied_distance s) site.neighbours;
    parent = keep.parents site.is_root site.ranges.nodes (copied_distance s) site.neighbours sound.neighbours;
    ports = range.ports;
    values = range.values;
    desk = range.desk;
  }

  desk-range : (site : Site) (s : LocalState) → IsNodeInRange site s → IsNodeInRange site (desk_done site s)
  desk-range site s range = record {
    distance = range.distance;
    parent = range.parent;
    ports = range.ports;
    values = range.values;
    desk = keep.ticks site.lease (is_node_privileged site s) s.desk range.desk;
  }

  pub ticked-range : (site : Site) (s : LocalState) → IsSiteSound site → IsNodeInRange site s → IsNodeInRange site (ticked site s)
  ticked-range site s sound range =
      machines-range site (desk_done site (recomputed site s)) sound (desk-range site (recomputed site s) (recomputed-range site s sound range))
