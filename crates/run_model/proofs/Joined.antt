-- What is known about two nodes that an edge joins.
use Rattle.std.proofs.Common.{◌≢◌, ℕ, ◌<◌, IsTrue, sym, ◌∙◌, subst}
use Rattle.std.proofs.lemmas.Bool.{both_ways}
use Rattle.link_model.specs.topology.Network.{Network, are_joined, IsAcceptedNetwork}
use Rattle.link_model.specs.topology.Laws.{JoinedBack, JoinedAreNodes, NotToItself}

-- u and v are two nodes, and joined
pub record IsEdge (net : Network) (u v : ℕ) : Type 0 where
  pub apart : u ≢ v
  pub first : u < net.nodes
  pub second : v < net.nodes
  pub joined : IsTrue (are_joined net.edges u v)
  pub back : IsTrue (are_joined net.edges v u)

-- all joined nodes are like that
abbrev pub AreEdges : Network → Type 0
AreEdges net = (u v : ℕ) → IsTrue (are_joined net.edges u v) → IsEdge net u v

pub are-edges : JoinedBack → JoinedAreNodes → NotToItself → (net : Network) → IsAcceptedNetwork net → AreEdges net
are-edges back nodes not_to_itself net ok u v joined = record {
  apart = λ same. both_ways (are_joined net.edges v v) (not_to_itself net v ok) (subst (λ x. IsTrue (are_joined net.edges x v)) same joined);
  first = (nodes net u v ok joined).0;
  second = (nodes net u v ok joined).1;
  joined = joined;
  back = sym (back net.edges u v) ∙ joined;
}
