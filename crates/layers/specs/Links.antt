-- The links of a network one by one, and how many of them are stable.
use Rattle.std.specs.Prelude.{◌≡◌, ℕ, zero, suc, IsTrue, List, [], ◌∷◌, flat_map, map}
use Rattle.std.specs.List.{AllByRecursion, range_with_len}
use Rattle.topology.specs.Network.{Network, are_joined, neighbours_of}
use Rattle.topology.specs.declared.frame.Payload.{Payload}
use Rattle.configuration.specs.run_model.World.{World}
use Rattle.configuration.specs.run_model.Project.{edge_of}
use Rattle.configuration.specs.data_link.Edge.{EdgeState, IsStable, CarriesItsPayload, payload_under}

-- the links that lead from a node, by their two ends, with ascending destinations
abbrev pub links_from : Network → ℕ → List (ℕ × ℕ)
links_from net u = map (λ v. (u, v)) (neighbours_of net u)

-- all links of a network: one in each direction for each edge
abbrev pub links_of : Network → List (ℕ × ℕ)
links_of net = flat_map (links_from net) (range_with_len 0 net.nodes)

-- the link is stable
abbrev pub IsLinkStable : World → ℕ × ℕ → Type 0
IsLinkStable w link = IsStable w.net.capacity (edge_of w link.0 link.1)

-- each link that leads from a node is stable
abbrev pub AreStableFrom : World → ℕ → Type 0
AreStableFrom w u = (v : ℕ) → IsTrue (are_joined w.net.edges u v) → IsLinkStable w (u, v)

-- P holds of this many items of a list, and of no others
pub data AreSuch {X : Type 0} (P : X → Type 0) : List X → ℕ → Type 0 where
  Nothing_left : AreSuch P [] zero
  One_more : {x : X} {xs : List X} {n : ℕ} → P x → AreSuch P xs n → AreSuch P (x ∷ xs) (suc n)
  Not_this : {x : X} {xs : List X} {n : ℕ} → (P x → ⊥) → AreSuch P xs n → AreSuch P (x ∷ xs) n

-- The payloads of a stable link: there is one other payload such that each frame on its way out,
-- and far's copy, is what near has staged if it came with near's number, and otherwise that other
-- payload.
abbrev pub CarriesPayloads : EdgeState → Type 0
CarriesPayloads s =
    (other : Payload) × AllByRecursion (CarriesItsPayload s.near other) s.out
    × (s.far.copy ≡ payload_under s.near other s.far.last)
