-- The parts of a step, on two nodes and on a square: refusals, what is written, and what an event does to a link.
use Rattle.std.proofs.Common.{◌≡◌, ℕ, [], ◌∷◌, map, Some, None, true, false, refl}
use Rattle.node_core.specs.State.{LocalState}
use Rattle.node_core.specs.data_link.Port.{PortState, frame_of}
use Rattle.node_core.specs.lock_desk.declared.fault.AskFault.TheVariants as ask
use Rattle.link_model.specs.Acts.{Puts, Takes, Loses, Rests}
use Rattle.link_model.specs.declared.item.Item.TheVariants.{Noise, Frame}
use Rattle.run_model.specs.World.{World, at_pair, with_node}
use Rattle.run_model.specs.Start.{default_world, world_with_spares}
use Rattle.run_model.specs.Rewire.{can_join, can_part, with_edge, without_edge}
use Rattle.run_model.specs.Step.{changed, desk_fault, first_fault, handed_over, harm_fault, harm_fits, harm_place_fault, harmed, link_fault, node_fault, nodes_fault, sent, ticket_fault, unless, with_port}
use Rattle.run_model.specs.Sweep.{is_link, link_act}
use Rattle.run_model.specs.declared.event.Event.TheVariants.{Send, Take, Lose, Tick, Ask}
use Rattle.run_model.specs.declared.event.EventFault.TheVariants.{NoNode, NoLink, OutOfRange, Full, NoSpare, Apart}
use Rattle.run_model.specs.declared.event.Harm.TheVariants as harm
use Rattle.run_model.proofs.RowsFaults.{square}
use Rattle.run_model.proofs.RowsTwo.{two_nodes}

abbrev start : World
start = default_world two_nodes

-- ---- refusals

first : (first_fault (Some NoNode) (Some NoLink) ≡ Some NoNode) × (first_fault None (Some NoLink) ≡ Some NoLink)
first = (refl, refl)

unless-holds : unless true NoNode ≡ None
unless-holds = refl

unless_not-holds : unless false NoNode ≡ Some NoNode
unless_not-holds = refl

nodes : (node_fault start 1 ≡ None) × (nodes_fault start 1 1 ≡ None)
nodes = (refl, refl)

no-nodes : (node_fault start 2 ≡ Some NoNode) × (nodes_fault start 1 2 ≡ Some NoNode)
no-nodes = (refl, refl)

link : link_fault start 1 0 ≡ None
link = refl

no-link : (link_fault start 1 1 ≡ Some NoLink) × (link_fault start 1 2 ≡ Some NoNode)
no-link = (refl, refl)

-- an item needs neighbours, and a new edge two nodes
place : (harm_place_fault start (harm.Item 0 1 Noise) ≡ None) × (harm_place_fault start (harm.Join 0 0) ≡ None)
place = (refl, refl)

no-place : (harm_place_fault start (harm.Item 0 0 Noise) ≡ Some NoLink) × (harm_place_fault start (harm.Join 0 2) ≡ Some NoNode)
no-place = (refl, refl)

-- on two nodes the greatest distance is 2
fits : harm_fits start (harm.Own 0 2 (Some 1)) ≡ true
fits = refl

fits_not : (harm_fits start (harm.Own 0 3 None) ≡ false) × (harm_fits start (harm.Own 0 2 (Some 2)) ≡ false)
fits_not = (refl, refl)

edges : (harm_fault (world_with_spares square 1) (harm.Join 0 3) ≡ None) × (harm_fault (default_world square) (harm.Part 0 1) ≡ None)
edges = (refl, refl)

edges_not : (harm_fault (default_world square) (harm.Join 0 3) ≡ Some NoSpare) × (harm_fault (world_with_spares square 1) (harm.Join 0 1) ≡ Some OutOfRange)
    × (harm_fault start (harm.Part 0 1) ≡ Some Apart)
edges_not = (refl, refl, refl)

joins : can_join square 0 3 ≡ true
joins = refl

joins_not : (can_join square 0 1 ≡ false) × (can_join square 2 2 ≡ false)
joins_not = (refl, refl)

parts : can_part square 0 1 ≡ true
parts = refl

parts_not : can_part two_nodes 0 1 ≡ false
parts_not = refl

desk : desk_fault (Some ask.Full) ≡ Some Full
desk = refl

desk_not : desk_fault None ≡ None
desk_not = refl

ticket : ticket_fault 65535 ≡ None
ticket = refl

ticket_not : ticket_fault 65536 ≡ Some OutOfRange
ticket_not = refl

-- ---- what is written, and what stays

pair : at_pair {X = ℕ} (λ u v. 5) 0 1 9 0 1 ≡ 9
pair = refl

pair_not-turned : at_pair {X = ℕ} (λ u v. 5) 0 1 9 1 0 ≡ 5
pair_not-turned = refl

node : (s : LocalState) → (with_node start 1 s).node 1 ≡ s
node s = refl

node_not-other : (s : LocalState) → (with_node start 1 s).node 0 ≡ start.node 0
node_not-other s = refl

port : (p : PortState) → ((with_port start 0 1 p).node 0).port 1 ≡ p
port p = refl

port_not-back : (p : PortState) → ((with_port start 0 1 p).node 1).port 0 ≡ (start.node 1).port 0
port_not-back p = refl

-- a link of two nodes holds one item
sends : (sent start 0 1).link 0 1 ≡ Frame (frame_of ((start.node 0).port 1)) ∷ []
sends = refl

sends_not-full : sent (harmed start (harm.Item 0 1 Noise)) 0 1 ≡ harmed start (harm.Item 0 1 Noise)
sends_not-full = refl

hands : (handed_over start 0 1 (Noise ∷ Noise ∷ [])).link 0 1 ≡ Noise ∷ []
hands = refl

hands_not-none : handed_over start 0 1 [] ≡ start
hands_not-none = refl

harms : ((harmed start (harm.Own 0 1 (Some 1))).node 0).parent ≡ Some 1
harms = refl

harms_not-other : (harmed start (harm.Own 0 1 (Some 1))).node 1 ≡ start.node 1
harms_not-other = refl

changes : ((changed start (Ask 0 5)).node 0).desk.waiting ≡ 5 ∷ []
changes = refl

changes_not-other : ((changed start (Ask 0 5)).node 1).desk.waiting ≡ []
changes_not-other = refl

-- the new edge is the last, and takes the spare pair; one that goes leaves a pair
joined : ((with_edge (world_with_spares square 1) 3 0).net.edges ≡ (0, 1) ∷ (0, 2) ∷ (1, 3) ∷ (2, 3) ∷ (3, 0) ∷ [])
    × ((with_edge (world_with_spares square 1) 3 0).spares ≡ 0)
joined = (refl, refl)

parted : ((without_edge (default_world square) 3 1).net.edges ≡ (0, 1) ∷ (0, 2) ∷ (2, 3) ∷ []) × ((without_edge (default_world square) 3 1).spares ≡ 1)
parted = (refl, refl)

-- ---- what an event does to the link from 0 to 1

same-link : is_link 0 1 0 1 ≡ true
same-link = refl

link_not-back : is_link 0 1 1 0 ≡ false
link_not-back = refl

acts : map (link_act 0 1) (Send 0 1 ∷ Take 0 1 ∷ Lose 0 1 3 ∷ []) ≡ Puts ∷ Takes ∷ Loses 3 ∷ []
acts = refl

acts_not-back : map (link_act 0 1) (Send 1 0 ∷ Take 1 0 ∷ Tick 0 ∷ []) ≡ Rests ∷ Rests ∷ Rests ∷ []
acts_not-back = refl
