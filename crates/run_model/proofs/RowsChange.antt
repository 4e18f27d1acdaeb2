-- Edges that join and go on a square whose nodes and links are not as at the start: what changes,
-- what stays, and what is refused.
use Rattle.std.proofs.Common.{◌≡◌, List, [], ◌∷◌, Some, None, true, false, refl, ap}
use Rattle.node_core.specs.data_link.Port.{default_port}
use Rattle.link_model.specs.topology.Network.{Network, Edge, neighbours_of}
use Rattle.link_model.specs.topology.Ranges.{ranges_of}
use Rattle.link_model.specs.topology.Tree.{distance_of}
use Rattle.link_model.specs.declared.item.Item.TheVariants.{Noise}
use Rattle.run_model.specs.World.{World}
use Rattle.run_model.specs.Start.{default_world, world_with_spares}
use Rattle.run_model.specs.Step.{refusal, step}
use Rattle.run_model.specs.Run.{run, is_damage}
use Rattle.run_model.specs.declared.event.Event.{Event}
use Rattle.run_model.specs.declared.event.Event.TheVariants.{Send, Damage}
use Rattle.run_model.specs.declared.event.EventFault.TheVariants.{NoNode, NoLink, OutOfRange, NoSpare, Apart}
use Rattle.run_model.specs.declared.event.Harm.TheVariants.{Counters, Value, Own, Item, Join, Part}
use Rattle.run_model.proofs.RowsFaults.{square}

-- each node's port and value for node 3 are marked, and so are node 3's for 1 and 2; an item is
-- under way on each link of the edge between 1 and 3, and one on another link
abbrev marked : World
marked =
    run (world_with_spares square 1)
    (Damage (Counters 1 3 4 3) ∷ Damage (Counters 3 1 3 4) ∷ Damage (Counters 3 2 2 1) ∷ Damage (Value 3 1 5) ∷ Damage (Value 3 2 6) ∷ Damage (Own 3 2 (Some 1))
    ∷ Damage (Item 1 3 Noise) ∷ Damage (Item 3 1 Noise) ∷ Damage (Item 2 3 Noise) ∷ [])

-- ---- the edge between 1 and 3 goes

abbrev parted : World
parted = step marked (Damage (Part 1 3))

part-is_fine : refusal marked (Damage (Part 1 3)) ≡ None
part-is_fine = refl

part-takes_the_edge : parted.net.edges ≡ (0, 1) ∷ (0, 2) ∷ (2, 3) ∷ []
part-takes_the_edge = refl

-- node 3 is still two steps away, now through 2
part-keeps_a_walk : distance_of parted.net 3 ≡ 2
part-keeps_a_walk = refl

part-drops_both_ports : (((parted.node 1).port 3) ≡ default_port (ranges_of square)) × (((parted.node 3).port 1) ≡ default_port (ranges_of square))
part-drops_both_ports = (refl, refl)

part-drops_the_value : (parted.node 3).value 1 ≡ 0
part-drops_the_value = refl

part-keeps_other_ports : ((parted.node 3).port 2).seq ≡ 2
part-keeps_other_ports = refl

part-keeps_other_values : (parted.node 3).value 2 ≡ 6
part-keeps_other_values = refl

-- node 3's own values stay, though its parent is no longer a neighbour
part-keeps_what_is_own : ((parted.node 3).distance ≡ 2) × ((parted.node 3).parent ≡ Some 1)
part-keeps_what_is_own = (refl, refl)

part-takes_the_items : (parted.link 1 3 ≡ []) × (parted.link 3 1 ≡ [])
part-takes_the_items = (refl, refl)

part-keeps_other_items : parted.link 2 3 ≡ Noise ∷ []
part-keeps_other_items = refl

part-gives_the_pair_back : parted.spares ≡ 2
part-gives_the_pair_back = refl

-- ---- and comes back

abbrev joined : World
joined = step parted (Damage (Join 3 1))

join-puts_the_edge_last : joined.net.edges ≡ (0, 1) ∷ (0, 2) ∷ (2, 3) ∷ (3, 1) ∷ []
join-puts_the_edge_last = refl

join-takes_a_pair : joined.spares ≡ 1
join-takes_a_pair = refl

-- nothing that was there comes back with it
join-forgets : (((joined.node 3).port 1) ≡ default_port (ranges_of square)) × (joined.link 1 3 ≡ [])
join-forgets = (refl, refl)

join-keeps_other_ports : ((joined.node 3).port 2).seq ≡ 2
join-keeps_other_ports = refl

-- the network is a different one, since its edges are in a different order; the neighbours are the
-- same
not_the_same_network : ¬ (joined.net ≡ square)
not_the_same_network same =
    let edges : ◌≡◌ {A = List Edge} ((0, 1) ∷ (0, 2) ∷ (2, 3) ∷ (3, 1) ∷ []) ((0, 1) ∷ (0, 2) ∷ (1, 3) ∷ (2, 3) ∷ []) = ap (λ (net : Network). net.edges) same in
    absurd cc

same_neighbours : neighbours_of joined.net 3 ≡ neighbours_of square 3
same_neighbours = refl

-- both are damage, and a refused one is not
part-is_damage : is_damage marked (Damage (Part 1 3)) ≡ true
part-is_damage = refl

join-is_damage : is_damage parted (Damage (Join 3 1)) ≡ true
join-is_damage = refl

refused-is_no_damage : is_damage marked (Damage (Join 3 1)) ≡ false
refused-is_no_damage = refl

-- ---- refusals

abbrev start : World
start = default_world square

no-second_part : refusal parted (Damage (Part 1 3)) ≡ Some NoLink
no-second_part = refl

-- without its last edge node 3 would be alone
no-part_of_the_last_edge : refusal parted (Damage (Part 2 3)) ≡ Some Apart
no-part_of_the_last_edge = refl

no-part_of_no_node : refusal start (Damage (Part 1 4)) ≡ Some NoNode
no-part_of_no_node = refl

no-join_with_itself : refusal marked (Damage (Join 3 3)) ≡ Some OutOfRange
no-join_with_itself = refl

-- no second edge joins two nodes, either way round
no-second_edge : (refusal marked (Damage (Join 0 1)) ≡ Some OutOfRange) × (refusal marked (Damage (Join 1 0)) ≡ Some OutOfRange)
no-second_edge = (refl, refl)

no-join_of_no_node : refusal marked (Damage (Join 0 4)) ≡ Some NoNode
no-join_of_no_node = refl

-- the opposite corners may be joined only if a pair is left
no-join_without_a_pair : (refusal marked (Damage (Join 0 3)) ≡ None) × (refusal start (Damage (Join 0 3)) ≡ Some NoSpare)
no-join_without_a_pair = (refl, refl)

-- a removed edge gives its pair to the next one
part-then_join : refusal (step start (Damage (Part 1 3))) (Damage (Join 0 3)) ≡ None
part-then_join = refl

out-of_range_before_no_pair : refusal start (Damage (Join 0 1)) ≡ Some OutOfRange
out-of_range_before_no_pair = refl

no-node_before_no_pair : refusal start (Damage (Join 4 4)) ≡ Some NoNode
no-node_before_no_pair = refl

-- no event crosses an edge that is gone, and any event may cross a new one
gone-with_its_links : (refusal parted (Send 1 3) ≡ Some NoLink) × (refusal joined (Send 1 3) ≡ None)
gone-with_its_links = (refl, refl)
