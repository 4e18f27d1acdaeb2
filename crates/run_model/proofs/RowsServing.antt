-- Worlds on two nodes that serve, and worlds that fail in just one way each.
use Rattle.std.proofs.Common.{◌≡◌, ◌≢◌, ℕ, ◌<◌, ◌≤◌, List, [], ◌∷◌, length, IsTrue, Some, None, IfSome, refl, sym, ◌∙◌, false, arith}
use Rattle.std.proofs.lemmas.Bool.{false≢true}
use Rattle.std.specs.Prelude.{◌==◌, if◌then◌else◌, IsSome}
use Rattle.link_model.specs.topology.Network.{IsWalk, IsDistance, IsTrueParent}
use Rattle.node_core.specs.data_link.Port.{PortState}
use Rattle.node_core.specs.lock_desk.Desk.{no_desk}
use Rattle.node_core.specs.State.{LocalState}
use Rattle.run_model.specs.World.{World}
use Rattle.run_model.specs.Tree.{IsTreeReached}
use Rattle.run_model.specs.Privilege.{is_privileged, is_lending}
use Rattle.run_model.specs.Headline.{IsServing}
use Rattle.run_model.proofs.RowsTwo.{two_nodes, each-node, node_with, calm, lending_desk}

-- ---- distances and parents of two nodes, by walks

root-distance : IsDistance two_nodes 0 0
root-distance = record { walk = ([], refl, refl); least = λ ws walk. omega arith }

-- no walk of length 0 leads to node 1
other-least : (ws : List ℕ) → IsWalk two_nodes.edges 0 ws 1 → 1 ≤ length ws
other-least [] walk = absurd cc
other-least (w ∷ ws) walk = omega arith

other-distance : IsDistance two_nodes 1 1
other-distance = record { walk = (1 ∷ [], (refl, refl), refl); least = other-least }

pub root-is_parent : IsTrueParent two_nodes 1 0
root-is_parent = record {
  nearer = record { joined = refl; distance = 0; of_nearer = root-distance; of_node = other-distance };
  smallest = λ q nearer. omega arith;
}

pub each-distance : (v : ℕ) → v < 2 → IsDistance two_nodes v (calm.node v).distance
each-distance = each-node (λ v. IsDistance two_nodes v (calm.node v).distance) root-distance other-distance

pub each-some_parent : (v : ℕ) → v < 2 → v ≢ 0 → IsSome (calm.node v).parent
each-some_parent = each-node (λ v. v ≢ 0 → IsSome (calm.node v).parent) (λ ne. absurd (ne refl)) (λ ne. refl)

pub each-parent : (v : ℕ) → v < 2 → IfSome (calm.node v).parent (IsTrueParent two_nodes v)
each-parent = each-node (λ v. IfSome (calm.node v).parent (IsTrueParent two_nodes v)) tt root-is_parent

-- what holds for at most one of two nodes
pub one-of_two : (P : ℕ → Type 0) → (P 0 → P 1 → ⊥) → (u v : ℕ) → u < 2 → v < 2 → P u → P v → u ≡ v
one-of_two P not_both u v l k p q =
    each-node (λ x. P x → x ≡ v) (λ a. each-node (λ y. P y → 0 ≡ y) (λ b. refl) (λ b. absurd (not_both a b)) v k q)
    (λ a. each-node (λ y. P y → 1 ≡ y) (λ b. absurd (not_both b a)) (λ b. refl) v k q) u l p

-- ---- worlds that serve

-- the calm world with other ports serves, if node 1 is not privileged
abbrev pub with_ports : (ℕ → ℕ → PortState) → World
with_ports port = record { net = two_nodes; spares = 0; node = λ v. record (calm.node v) { port = port v }; link = calm.link }

serves-with_ports : (port : ℕ → ℕ → PortState) → is_privileged (with_ports port) 1 ≡ false → IsServing (with_ports port)
serves-with_ports port not_one = record {
  distances = each-distance;
  no_parent = refl;
  some_parent = each-some_parent;
  parents = each-parent;
  one_privileged = one-of_two (λ v. IsTrue (is_privileged (with_ports port) v)) (λ a b. false≢true (sym not_one ∙ b));
  one_lending = one-of_two (λ v. IsTrue (is_lending (with_ports port) v)) (λ a b. false≢true b);
}

-- the calm world: only node 0 is privileged, and nobody lends
pub calm-serves : IsServing calm
calm-serves = serves-with_ports (λ v. (calm.node v).port) refl

-- node 0 has copied a wrong distance of node 1
abbrev pub stale : World
stale = with_ports (λ v u. record ((calm.node v).port u) { copy = record (((calm.node v).port u).copy) { distance = 2 } })

-- it serves all the same, though the tree is not reached
pub stale-serves : IsServing stale
stale-serves = serves-with_ports (λ v u. record ((calm.node v).port u) { copy = record (((calm.node v).port u).copy) { distance = 2 } }) refl

pub stale-tree_not_reached : ¬ IsTreeReached stale
stale-tree_not_reached tree = let same = (tree.copied 1 0 refl).distance in absurd cc

-- ---- worlds that do not serve

-- the calm world with a different state of one node
abbrev calm-but : ℕ → LocalState → World
calm-but v s = record { net = two_nodes; spares = 0; node = λ u. if u == v then s else calm.node u; link = calm.link }

-- node 1's machine has a different value, so both nodes are privileged
abbrev pub two_tokens : World
two_tokens = calm-but 1 (node_with 1 no_desk 1 0 0)

pub two_tokens-do_not_serve : ¬ IsServing two_tokens
two_tokens-do_not_serve s = let same = s.one_privileged 0 1 (omega arith) (omega arith) refl refl in absurd cc

-- both nodes lend, and one is privileged
abbrev pub two_loans : World
two_loans = record { net = two_nodes; spares = 0; node = λ v. node_with v lending_desk 0 0 0; link = calm.link }

pub two_loans-have_one_token : (u v : ℕ) → u < 2 → v < 2 → IsTrue (is_privileged two_loans u) → IsTrue (is_privileged two_loans v) → u ≡ v
two_loans-have_one_token = one-of_two (λ v. IsTrue (is_privileged two_loans v)) (λ a b. false≢true b)

pub two_loans-do_not_serve : ¬ IsServing two_loans
two_loans-do_not_serve s = let same = s.one_lending 0 1 (omega arith) (omega arith) refl refl in absurd cc

-- node 1 says that it is two steps away
pub wrong-distance_does_not_serve : ¬ IsServing (calm-but 1 (record (calm.node 1) { distance = 2 }))
wrong-distance_does_not_serve s = let l : 2 ≤ 1 = (s.distances 1 (omega arith)).least (1 ∷ []) (refl, refl) in absurd (omega (arith, l))

-- the root says that it is one step away
pub wrong-root_does_not_serve : ¬ IsServing (calm-but 0 (record (calm.node 0) { distance = 1 }))
wrong-root_does_not_serve s = let l : 1 ≤ 0 = (s.distances 0 (omega arith)).least [] refl in absurd (omega (arith, l))

-- node 1 names itself as its parent
pub wrong-parent_does_not_serve : ¬ IsServing (calm-but 1 (record (calm.node 1) { parent = Some 1 }))
wrong-parent_does_not_serve s = let p : IsTrueParent two_nodes 1 1 = s.parents 1 (omega arith) in false≢true p.nearer.joined

-- node 1 has no parent
pub orphan-does_not_serve : ¬ IsServing (calm-but 1 (record (calm.node 1) { parent = None }))
orphan-does_not_serve s = false≢true (s.some_parent 1 (omega arith) (λ e. absurd cc))

-- the root has a parent
pub root-with_parent_does_not_serve : ¬ IsServing (calm-but 0 (record (calm.node 0) { parent = Some 1 }))
root-with_parent_does_not_serve s = absurd (let p = s.no_parent in cc)
