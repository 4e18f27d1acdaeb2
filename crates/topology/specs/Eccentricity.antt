-- The eccentricity of the root, and the bound on recovery that grows with the number of nodes and
-- not with the capacity of links.
use Rattle.std.specs.Prelude.{◌≡◌, ℕ, ◌+◌, ◌-◌, ◌*◌, ◌<◌, ◌≤◌, ◌↔◌, max, map, fold}
use Rattle.std.specs.List.{range_with_len}
use Rattle.topology.specs.Network.{Network, IsDistance, IsAcceptedNetwork, bound_of}
use Rattle.topology.specs.Tree.{distance_of}

-- no node is further from the root than this, and some node is exactly as far
pub record IsEccentricity (net : Network) (greatest : ℕ) : Type 0 where
  pub most : (v distance : ℕ) → v < net.nodes → IsDistance net v distance → distance ≤ greatest
  pub attained : (v : ℕ) × (v < net.nodes) × IsDistance net v greatest

-- the greatest of the distances of all nodes
abbrev pub eccentricity_of : Network → ℕ
eccentricity_of net = fold max 0 (map (distance_of net) (range_with_len 0 net.nodes))

-- The sweeps after which the system is legitimate, whatever the capacity, with e the greatest
-- distance: 6 until the links count correctly, 4(e+2) until the tree stands, 16(n-1) until the ring
-- has one token, and one until no loan is left without the privilege.
abbrev pub sharp_of : Network → ℕ
sharp_of net = 16 * (net.nodes - 1) + 4 * eccentricity_of net + 15

-- ---- laws

-- no computed distance is greater
abbrev pub DistancesWithin : Type 0
DistancesWithin = (net : Network) (v : ℕ) → v < net.nodes → distance_of net v ≤ eccentricity_of net

-- the greatest computed distance is the greatest distance
abbrev pub EccentricityIs : Type 0
EccentricityIs =
    (net : Network) (e : ℕ) → IsAcceptedNetwork net → (eccentricity_of net ≡ e)
    ↔ IsEccentricity net e

-- it is below the number of nodes
abbrev pub EccentricityBelow : Type 0
EccentricityBelow = (net : Network) → IsAcceptedNetwork net → eccentricity_of net < net.nodes

-- this bound is never above the other one
abbrev pub SharpWithinBound : Type 0
SharpWithinBound = (net : Network) → IsAcceptedNetwork net → sharp_of net ≤ bound_of net
