-- A world in range stays so if an edge joins or goes.
use Rattle.std.proofs.Common.{◌≡◌, ◌≢◌, ℕ, ◌<◌, ◌≤◌, List, [], ◌∷◌, ◌+◌, Bool, true, false, IsTrue, None, length, refl, sym, ◌∙◌, ap, subst, arith, inl, inr}
use Rattle.std.proofs.lemmas.Grind.{common_steps}
use Rattle.std.proofs.lemmas.Bool.{cases_eq, cond-true, cond-false, cond_both, and_parts, or_cases, or_parts, eq-eqb, eqb-true, ne_eqb, false≢true}
use Rattle.std.proofs.lemmas.Bool.Decides.{nat_tests}
use Rattle.std.proofs.lemmas.List.Elements.{All-nil, All-head, All-tail}
use Rattle.std.specs.Prelude.{◌-◌, ◌==◌, ◌&&◌, ◌||◌, not, is_some, slice_index_or}
use Rattle.std.specs.List.{All, list_any}
use Rattle.link_model.specs.topology.At.{at}
use Rattle.link_model.specs.topology.Network.{Network, Edge, are_joined, is_between, neighbours_of, ring_of, IsAcceptedNetwork, joined_net, parted_net}
use Rattle.link_model.specs.topology.Change.{join_fault, part_fault}
use Rattle.link_model.specs.topology.Ranges.{ranges_of}
use Rattle.link_model.specs.topology.Laws.{JoinedIsAccepted, PartedIsAccepted, WhoIsJoined, WhoIsParted, OthersStayAtJoin, OthersStayAtPart}
use Rattle.link_model.specs.declared.item.Item.{Item}
use Rattle.node_core.specs.data_link.Port.{PortState, port_fits, default_port}
use Rattle.node_core.specs.registers.Rewire.{is_among, stays, rewired_ports, rewired_values}
use Rattle.node_core.specs.Site.{site_of}
use Rattle.node_core.specs.State.{LocalState, IsNodeInRange}
use Rattle.run_model.specs.World.{World, IsWorldInRange, item_fits, at_pair}
use Rattle.run_model.specs.Rewire.{can_join, can_part, node_in, world_in, with_edge, without_edge}
use Rattle.run_model.specs.Step.{nodes_fault, link_fault}
use Rattle.run_model.proofs.Ranges.{default-fits}

-- what is known of a network that an edge joins or leaves
pub record AreNetworksKept : Type 0 where
  pub joined : JoinedIsAccepted
  pub parted : PartedIsAccepted
  pub who_is_joined : WhoIsJoined
  pub who_is_parted : WhoIsParted
  pub others_at_join : OthersStayAtJoin
  pub others_at_part : OthersStayAtPart

-- what holds for all nodes of a list holds for each
among : (P : ℕ → Type 0) (ns : List ℕ) (x : ℕ) → All P ns → is_among ns x ≡ true → P x
among P [] x all h = absurd (false≢true h)
among P (n ∷ ns) x all h = elim (or_cases (n == x) (list_any (λ u. u == x) ns) h) [
  | inl here ↦ subst P (eqb-true n x here) (All-head P n ns all)
  | inr later ↦ among P ns x (All-tail P n ns all) later
]

module _ (w : World) (edges : List Edge) where
  -- the network with these edges
  abbrev other : Network
  other = record w.net { edges = edges }

  -- a node that gets other neighbours
  rewired-range : (x : ℕ) → IsNodeInRange (site_of w.net x) (w.node x) → 0 < ring_of w.net → IsNodeInRange (site_of other x) (node_in w other x)
  rewired-range x old some =
      let ranges = ranges_of w.net in
      let before = neighbours_of w.net x in
      let after = neighbours_of other x in
      let s = w.node x in
      let port : (y : ℕ) → port_fits ranges (rewired_ports ranges before after s.port y) ≡ true
      = λ y. cond_both (stays before after y) (s.port y) (default_port ranges) (λ p. port_fits ranges p ≡ true)
      (λ kept. among (λ z. IsTrue (port_fits ranges (s.port z))) before y old.ports (and_parts (is_among before y) (is_among after y) kept).0)
      (λ _. default-fits w.net) in
      let value : (y : ℕ) → rewired_values before after s.value y < ring_of w.net
      = λ y. cond_both (stays before after y) (s.value y) 0 (λ z. z < ring_of w.net)
      (λ kept. among (λ z. s.value z < ring_of w.net) before y old.values (and_parts (is_among before y) (is_among after y) kept).0)
      (λ _. some) in
      record {
        distance = old.distance;
        parent = old.parent;
        ports = λ k d l. port (slice_index_or after k d);
        values = λ k d l. value (slice_index_or after k d);
        desk = old.desk;
      }

  -- a node that keeps its neighbours
  same-range : (x : ℕ) → neighbours_of other x ≡ neighbours_of w.net x → IsNodeInRange (site_of w.net x) (w.node x) → IsNodeInRange (site_of other x) (w.node x)
  same-range x same old = subst (λ ns. IsNodeInRange (record (site_of w.net x) { neighbours = ns }) (w.node x)) (sym same) old

  -- the links of the changed edge are empty, and the others as before
  link-is : (u v a b : ℕ) (P : List Item → Type 0) → P [] → (is_between a b (u, v) ≡ false → P (w.link a b)) → P (at_pair (at_pair w.link u v []) v u [] a b)
  link-is u v a b P none before =
      cond_both ((a == v) && (b == u)) [] (at_pair w.link u v [] a b) P (λ _. none) (λ first.
      cond_both ((a == u) && (b == v)) [] (w.link a b) P (λ _. none) (λ second. before (grind (arith, nat_tests))))

  pub world-range : (u v spares : ℕ) → IsWorldInRange w → IsAcceptedNetwork other
      → ((x : ℕ) → x ≢ u → x ≢ v → neighbours_of other x ≡ neighbours_of w.net x)
      → ((a b : ℕ) → IsTrue (are_joined edges a b) → is_between a b (u, v) ≡ false → IsTrue (are_joined w.net.edges a b))
      → IsWorldInRange (world_in w other u v spares)
  world-range u v spares range ok same before =
      let some : 0 < ring_of w.net = omega arith in
      record {
        network = ok;
        nodes = λ x l. elim (cases_eq x v) [
          | inl e ↦
              rw (cond-true (x == v) (node_in w other v) (at w.node u (node_in w other u) x) (eq-eqb x v e))
              (subst (λ y. IsNodeInRange (site_of other y) (node_in w other v)) (sym e) (rewired-range v (range.nodes v (subst (λ y. y < w.net.nodes) e l)) some))
          | inr other_v ↦ rw (cond-false (x == v) (node_in w other v) (at w.node u (node_in w other u) x) (ne_eqb x v other_v)) (elim (cases_eq x u) [
            | inl e ↦
                rw (cond-true (x == u) (node_in w other u) (w.node x) (eq-eqb x u e))
                (subst (λ y. IsNodeInRange (site_of other y) (node_in w other u)) (sym e) (rewired-range u (range.nodes u (subst (λ y. y < w.net.nodes) e l)) some))
            | inr other_u ↦
                rw (cond-false (x == u) (node_in w other u) (w.node x) (ne_eqb x u other_u))
                (same-range x (same x other_u other_v) (range.nodes x l))
          ])
        ];
        capacity = λ a b joined. link-is u v a b (λ items. length items ≤ w.net.capacity) (omega arith) (λ out. range.capacity a b (before a b joined out));
        items = λ a b joined. link-is u v a b (λ items. All (λ item. IsTrue (item_fits (ranges_of w.net) item)) items)
            (All-nil (λ item. IsTrue (item_fits (ranges_of w.net) item))) (λ out. range.items a b (before a b joined out));
      }

-- ---- an edge joins, or goes

may-join : (w : World) (u v : ℕ) → is_some (nodes_fault w u v) ≡ false → can_join w.net u v ≡ true → join_fault w.net u v ≡ None
may-join w u v place fits = grind (arith, common_steps, nat_tests)

may-part : (w : World) (u v : ℕ) → is_some (link_fault w u v) ≡ false → can_part w.net u v ≡ true → part_fault w.net u v ≡ None
may-part w u v place fits = grind (arith, common_steps, nat_tests)

was-joined : (a b new : Bool) → a ≡ (b || new) → a ≡ true → new ≡ false → b ≡ true
was-joined a b new is h out = grind arith

module _ (kept : AreNetworksKept) where
  pub joined-range : (w : World) (u v : ℕ) → IsWorldInRange w → is_some (nodes_fault w u v) ≡ false → can_join w.net u v ≡ true → IsWorldInRange (with_edge w u v)
  joined-range w u v range place fits =
      let edges = (joined_net w.net u v).edges in
      world-range w edges u v (w.spares - 1) range (kept.joined w.net u v range.network (may-join w u v place fits)) (kept.others_at_join w.net u v)
      (λ a b joined out. was-joined (are_joined edges a b) (are_joined w.net.edges a b) (is_between a b (u, v)) (kept.who_is_joined w.net u v a b) joined out)

  pub parted-range : (w : World) (u v : ℕ) → IsWorldInRange w → is_some (link_fault w u v) ≡ false → can_part w.net u v ≡ true → IsWorldInRange (without_edge w u v)
  parted-range w u v range place fits =
      let edges = (parted_net w.net u v).edges in
      world-range w edges u v (w.spares + 1) range (kept.parted w.net u v range.network (may-part w u v place fits)) (kept.others_at_part w.net u v)
      (λ a b joined out. (and_parts (are_joined w.net.edges a b) (not (is_between u v (a, b))) (sym (kept.who_is_parted w.net u v a b) ∙ joined)).0)
