-- The smallest network, two nodes and links of capacity 1; worlds on it that are in range, calm,
-- and forged.
use Rattle.std.proofs.Common.{◌≡◌, ℕ, ◌<◌, zero, suc, List, [], ◌∷◌, false, IsTrue, Some, None, refl, inl, arith}
use Rattle.std.proofs.lemmas.Bool.Decides.{nat_tests}
use Rattle.std.specs.Prelude.{◌==◌, if◌then◌else◌}
use Rattle.std.proofs.lemmas.List.Elements.{All-nil, All-cons}
use Rattle.link_model.specs.topology.Network.{Network, are_joined, IsWalk, IsEdgeBelow, IsConnected, IsAcceptedNetwork}
use Rattle.link_model.specs.topology.Tree.{distance_of, parent_of}
use Rattle.node_core.specs.data_link.Edge.{IsStable}
use Rattle.link_model.specs.topology.declared.frame.Payload.{Payload}
use Rattle.node_core.specs.lock_desk.Desk.{DeskState, no_desk}
use Rattle.node_core.specs.State.{LocalState}
use Rattle.run_model.specs.World.{World, IsWorldInRange}
use Rattle.run_model.specs.Start.{default_world}
use Rattle.run_model.proofs.Ranges.{start-range}
use Rattle.run_model.specs.Tree.{IsTrueOf, IsTreeReached}
use Rattle.run_model.specs.Links.{AreLinksStable}
use Rattle.run_model.specs.NodeCounts.{privileged_count, lending_count}
use Rattle.run_model.specs.Project.{edge_of}

abbrev pub two_nodes : Network
two_nodes = record { nodes = 2; root = 0; capacity = 1; lease = 0; edges = (0, 1) ∷ [] }

-- ---- every node, and every link in each direction

pub each-node : (P : ℕ → Type 0) → P 0 → P 1 → (v : ℕ) → v < 2 → P v
each-node P a b zero l = a
each-node P a b (suc zero) l = b
each-node P a b (suc (suc v)) l = absurd (omega arith)

pub each-link : (P : ℕ → ℕ → Type 0) → P 0 1 → P 1 0 → (u v : ℕ) → IsTrue (are_joined two_nodes.edges u v) → P u v
each-link P a b zero zero j = absurd cc
each-link P a b zero (suc zero) j = a
each-link P a b zero (suc (suc v)) j = absurd (grind (arith, nat_tests))
each-link P a b (suc zero) zero j = b
each-link P a b (suc zero) (suc v) j = absurd (grind (arith, nat_tests))
each-link P a b (suc (suc u)) v j = absurd (grind (arith, nat_tests))

-- ---- a world in range

is-connected : IsConnected two_nodes
is-connected = each-node (λ v. (ws : List ℕ) × IsWalk two_nodes.edges 0 ws v) ([], refl) (1 ∷ [], (refl, refl))

pub is-accepted : IsAcceptedNetwork two_nodes
is-accepted = record {
  limits = record {
    two = omega arith;
    most = omega arith;
    few_edges = omega arith;
    root_in = omega arith;
    some_capacity = omega arith;
    most_capacity = omega arith;
    most_lease = omega arith;
    edges_in = All-cons (IsEdgeBelow 2) (0, 1) [] (record { first = omega arith; second = omega arith; no_loop = λ e. absurd (omega arith) }) (All-nil (IsEdgeBelow 2));
    no_double = refl;
  };
  connected = is-connected;
}

-- so there is a possible start
start-in_range : IsWorldInRange (default_world two_nodes)
start-in_range = start-range two_nodes 0 is-accepted

-- ---- a calm world

-- node 0 is the root, and node 1 its child; both know it, and every ring value is 0
abbrev pub shown : ℕ → ℕ → Payload
shown zero ring = record { distance = 0; parent = None; ring = ring }
shown (suc v) ring = record { distance = 1; parent = Some 0; ring = ring }

-- a node of such a world, with the values of its machine, of what it has staged, and of its copy
abbrev pub node_with : ℕ → DeskState → ℕ → ℕ → ℕ → LocalState
node_with v desk x staged copy = record {
  distance = (shown v 0).distance;
  parent = (shown v 0).parent;
  port = λ u. record { seq = 0; last = 0; staged = shown v staged; copy = shown u copy };
  value = λ u. x;
  desk = desk;
}

abbrev pub calm : World
calm = record { net = two_nodes; spares = 0; node = λ v. node_with v no_desk 0 0 0; link = λ u v. [] }

pub calm-links_stable : AreLinksStable calm
calm-links_stable = each-link (λ u v. IsStable 1 (edge_of calm u v))
    (record { good = inl (refl, inl (refl, tt)); other = shown 0 0; out = tt; copied = refl })
    (record { good = inl (refl, inl (refl, tt)); other = shown 1 0; out = tt; copied = refl })

pub calm-tree_reached : IsTreeReached calm
calm-tree_reached = record {
  distance = each-node (λ v. (calm.node v).distance ≡ distance_of two_nodes v) refl refl;
  parent = each-node (λ v. (calm.node v).parent ≡ parent_of two_nodes v) refl refl;
  staged = each-link (λ v u. IsTrueOf calm v ((calm.node v).port u).staged) (record { distance = refl; parent = refl }) (record { distance = refl; parent = refl });
  copied = each-link (λ v u. IsTrueOf calm v ((calm.node u).port v).copy) (record { distance = refl; parent = refl }) (record { distance = refl; parent = refl });
}

-- ---- a forged world

abbrev pub lending_desk : DeskState
lending_desk = record { waiting = []; lent = Some 5; left = 0; served = false }

-- links and tree are right, but node 1's machine has a different value, and both nodes lend
abbrev pub forged : World
forged = record {
  net = two_nodes;
  spares = 0;
  node = λ v. node_with v lending_desk (if v == 0 then 0 else 1) 0 0;
  link = λ u v. [];
}

-- two nodes are privileged, and both lend
two-privileged : privileged_count forged ≡ 2
two-privileged = refl

two-lending : lending_count forged ≡ 2
two-lending = refl
