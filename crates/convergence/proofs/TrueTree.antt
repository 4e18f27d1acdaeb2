-- If the tree is reached, each node's own tree neighbours are those of the true tree.
use Rattle.std.proofs.Common.{◌≡◌, ℕ, ◌<◌, true, ◌||◌, ◌∙◌}
use Rattle.std.specs.List.{range_with_len}
use Rattle.topology.specs.Network.{Network, are_joined, neighbours_of, IsAcceptedNetwork}
use Rattle.topology.specs.Tree.{parent_of}
use Rattle.topology.specs.Laws.{JoinedBack}
use Rattle.tree_convergence.specs.euler_ring.Cycle.{is_named}
use Rattle.run_model.specs.node_core.Machines.{tree_of}
use Rattle.run_model.specs.World.{World, site}
use Rattle.run_model.specs.Tree.{IsTreeReached}
use Rattle.convergence.specs.Legs.{is_on_tree}
use Rattle.tree_convergence.specs.euler_ring.Laws.{true_neighbours, OwnViewIsTrue}
use Rattle.convergence.proofs.TreeLists.{passes-filter}

-- tree neighbours are joined
pub tree-joined : (net : Network) (v t : ℕ) → is_on_tree net v t ≡ true → are_joined net.edges v t ≡ true
tree-joined net v t h =
    let i = passes-filter (λ u. is_named (parent_of net v) u || is_named (parent_of net u) v) t (neighbours_of net v) h in
    (passes-filter (are_joined net.edges v) t (range_with_len 0 net.nodes) i.1).0

module _ (back : JoinedBack) (view : OwnViewIsTrue) where
  pub tree-is : (w : World) (v : ℕ) → IsAcceptedNetwork w.net → IsTreeReached w → v < w.net.nodes → tree_of (site w v) (w.node v) ≡ true_neighbours w.net v
  tree-is w v a t l =
      view w.net v (w.node v).parent (λ u. ((w.node v).port u).copy.parent) a (t.parent v l) (λ u j. (t.copied u v (back w.net.edges u v ∙ j)).parent)
