-- A square that loses an edge or gains one: what a node keeps then, and what becomes of the world.
use Rattle.std.proofs.Common.{◌≡◌, ℕ, List, [], ◌∷◌, refl, arith}
use Rattle.node_core.specs.data_link.Port.{default_port}
use Rattle.node_core.specs.State.{LocalState, default_node}
use Rattle.link_model.specs.topology.Network.{Network}
use Rattle.link_model.specs.topology.Ranges.{ranges_of}
use Rattle.link_model.specs.declared.item.Item.{Item}
use Rattle.link_model.specs.declared.item.Item.TheVariants.{Noise}
use Rattle.run_model.specs.World.{World}
use Rattle.run_model.specs.Rewire.{node_in, world_in}
use Rattle.run_model.proofs.RowsFaults.{square}

-- the square 0 - 1 - 3 - 2 - 0 with these nodes and these items under way, and one spare pair
abbrev world : (ℕ → LocalState) → (ℕ → ℕ → List Item) → World
world node link = record { net = square; spares = 1; node = node; link = link }

-- a node with the value 5 for each neighbour
abbrev fives : LocalState
fives = record (default_node (ranges_of square)) { value = λ u. 5 }

-- a world of such nodes, with noise under way everywhere
abbrev noisy : World
noisy = world (λ v. fives) (λ u v. Noise ∷ [])

-- ---- a node in another network

-- node 1 has the neighbours 0 and 2 here, and had 0 and 3
abbrev other : Network
other = record square { edges = (0, 1) ∷ (0, 2) ∷ (1, 2) ∷ (2, 3) ∷ [] }

abbrev moved : (ℕ → LocalState) → (ℕ → ℕ → List Item) → LocalState
moved node link = node_in (world node link) other 1

-- what node 1 has for 0 is kept, whatever it is
node-keeps : (node : ℕ → LocalState) (link : ℕ → ℕ → List Item)
    → ((moved node link).port 0 ≡ (node 1).port 0) × ((moved node link).value 0 ≡ (node 1).value 0)
node-keeps node link = (refl, refl)

-- what it has for 2 is as at the start, whatever stood there
node-begins : (node : ℕ → LocalState) (link : ℕ → ℕ → List Item)
    → ((moved node link).port 2 ≡ default_port (ranges_of square)) × ((moved node link).value 2 ≡ 0)
node-begins node link = (refl, refl)

-- its distance, parent and desk are for no neighbour, and stay
node-own : (node : ℕ → LocalState) (link : ℕ → ℕ → List Item)
    → ((moved node link).distance ≡ (node 1).distance) × ((moved node link).parent ≡ (node 1).parent)
    × ((moved node link).desk ≡ (node 1).desk)
node-own node link = (refl, refl, refl)

-- a value that stood at the place of the new neighbour is not kept
node_not-kept : ¬ ((node_in noisy other 1).value 2 ≡ 5)
node_not-kept e = omega (arith, e)

-- ---- the world after one edge

-- an edge joins the corners 0 and 3
abbrev more : Network
more = record square { edges = (0, 1) ∷ (0, 2) ∷ (1, 3) ∷ (2, 3) ∷ (0, 3) ∷ [] }

abbrev gained : (ℕ → LocalState) → (ℕ → ℕ → List Item) → World
gained node link = world_in (world node link) more 0 3 0

-- the edge between 1 and 3 is gone
abbrev fewer : Network
fewer = record square { edges = (0, 1) ∷ (0, 2) ∷ (2, 3) ∷ [] }

abbrev lost : (ℕ → LocalState) → (ℕ → ℕ → List Item) → World
lost node link = world_in (world node link) fewer 1 3 7

-- the world has the new network, and as many spare pairs as are said, whatever it had
world-net : (node : ℕ → LocalState) (link : ℕ → ℕ → List Item) → ((lost node link).net ≡ fewer) × ((lost node link).spares ≡ 7)
world-net node link = (refl, refl)

-- each end has its new neighbour, as at the start
world-ends : (node : ℕ → LocalState) (link : ℕ → ℕ → List Item)
    → (((gained node link).node 0).value 3 ≡ 0) × (((gained node link).node 3).value 0 ≡ 0)
world-ends node link = (refl, refl)

-- what they have for the neighbours that stay is kept, and the other two nodes are as they were
world-stays : (node : ℕ → LocalState) (link : ℕ → ℕ → List Item)
    → (((gained node link).node 0).value 1 ≡ (node 0).value 1) × (((gained node link).node 3).value 1 ≡ (node 3).value 1)
    × ((gained node link).node 1 ≡ node 1) × ((gained node link).node 2 ≡ node 2)
world-stays node link = (refl, refl, refl, refl)

-- nothing is under way between the two, either way, and all other links are as they were
world-links : (node : ℕ → LocalState) (link : ℕ → ℕ → List Item)
    → ((lost node link).link 1 3 ≡ []) × ((lost node link).link 3 1 ≡ [])
    × ((lost node link).link 0 1 ≡ link 0 1) × ((lost node link).link 3 2 ≡ link 3 2)
world-links node link = (refl, refl, refl, refl)

-- the second end does not keep a value for the first
world_not-one_end : ¬ (((world_in noisy more 0 3 0).node 3).value 0 ≡ 5)
world_not-one_end e = omega (arith, e)

-- what was under way back from 3 to 1 is not there any more
world_not-under_way : ¬ ((world_in noisy fewer 1 3 7).link 3 1 ≡ Noise ∷ [])
world_not-under_way e = absurd cc
