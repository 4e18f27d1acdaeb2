-- An accepted network has an edge.
use Rattle.std.proofs.Common.{ℕ, ◌<◌, ◌≤◌, ◌≢◌, List, [], ◌∷◌, length, IsTrue, arith, inl, inr}
use Rattle.std.specs.Prelude.{◌⊎◌}
use Rattle.topology.specs.Network.{Edge, Network, are_joined}
use Rattle.topology.specs.Laws.{IsTree}

joined-some : (edges : List Edge) (v w : ℕ) → IsTrue (are_joined edges v w) → 0 < length edges
joined-some [] v w joined = absurd (grind arith)
joined-some (e ∷ es) v w joined = grind arith

-- a node that is not the root is joined to its parent
pub some-edge : (net : Network) → IsTree net → (v : ℕ) → v < net.nodes → v ≢ net.root → 0 < length net.edges
some-edge net tree v below other =
    let p = tree.parent v below other in
    joined-some net.edges v p.0 (tree.parent_joined v p.0 p.1)

-- one of two nodes is not the root
first-or-second : (r : ℕ) → (0 ≢ r) ⊎ (1 ≢ r)
first-or-second r = grind arith

pub has-edge : (net : Network) → IsTree net → 2 ≤ net.nodes → 0 < length net.edges
has-edge net tree two =
    elim (first-or-second net.root) [
      | inl a ↦ some-edge net tree 0 (omega arith) a
      | inr b ↦ some-edge net tree 1 (omega arith) b
    ]
