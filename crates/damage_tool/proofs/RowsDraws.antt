-- What is drawn from generators that one can follow by hand. From the state 0 with the increment 1 the
-- first word is 0, and the state after it 1; from there the word is 0 again, and the state after it one more
-- than the multiplier, 6364136223846793006. By the rule of PCG32 (O'Neill 2014) the next words are 3837872008,
-- 932996374, 1548399547, 1612522464, 473443212, 3522865942, 1734871597, 2449558126, 1653269385 and 2811495245.
use Rattle.std.proofs.Common.{◌≡◌, ◌≢◌, List, [], ◌∷◌, ◌++◌, true, false, None, Some, codes, refl, arith}
use Rattle.rand_pcg.specs.Lcg.{Lcg}
use Rattle.topology.specs.declared.frame.Ranges.{Ranges}
use Rattle.run_model.specs.link_model.declared.item.Item.TheVariants.{Frame, Noise}
use Rattle.run_model.specs.node_core.State.{default_node}
use Rattle.run_model.specs.declared.event.Event.{Event}
use Rattle.run_model.specs.declared.event.Event.TheVariants.{Damage}
use Rattle.run_model.specs.declared.event.Harm.TheVariants as harm
use Rattle.run_model.proofs.RowsTwo.{two_nodes}
use Rattle.damage_tool.specs.Draws.{draw, draw_parent, draw_payload, draw_port, draw_bytes, draw_junk}
use Rattle.damage_tool.specs.Harms.{draw_own, draw_desk, draw_item, draw_item_harm, draw_link, draw_links_from, draw_node, draw_port_harms, draw_world}
use Rattle.damage_tool.specs.Scrambled.{node_scrambled, ports_scrambled}

abbrev still : Lcg
still = record { state = 0; increment = 1 }

abbrev once : Lcg
once = record { state = 1; increment = 1 }

abbrev twice : Lcg
twice = record { state = 6364136223846793006; increment = 1 }

abbrev small : Ranges
small = record { nodes = 2; counter = 5; ring = 7 }

draws-first : draw 94 still ≡ (0, once)
unfolding draw
draws-first = refl

draws-second : draw 94 once ≡ (0, twice)
unfolding draw
draws-second = refl

draws_not-again : draw 94 still ≢ (0, still)
unfolding draw
draws_not-again = grind arith

-- the parent 0 is a node
draws-parent : draw_parent small still ≡ (Some 0, once)
unfolding draw
draws-parent = refl

-- bytes begin with the exclamation mark, and each takes a word
draws-bytes : draw_bytes 2 still ≡ (33 ∷ 33 ∷ [], twice)
unfolding draw
draws-bytes = refl

draws_not-bytes : draw_bytes 0 still ≡ ([], still)
draws_not-bytes = refl

-- the distance is drawn first, and the parent from the word after it
draws-own : draw_own small 1 still ≡ (Damage (harm.Own 1 0 (Some 0)), twice)
unfolding draw
draws-own = refl

-- if the second word says that there is no loan, nothing is drawn of what is left
draws-desk : draw_desk 9 1 still ≡ (Damage (harm.Desk 1 None 0 false), twice)
unfolding draw
draws-desk = refl

-- and noise has no numbers
draws-noise : draw_item small still ≡ (Noise, once)
unfolding draw
draws-noise = refl

draws-item : draw_item_harm small 0 1 3 still ≡ (Damage (harm.Item 0 1 Noise) ∷ [], once)
unfolding draw
draws-item = refl

-- a payload is a distance, a parent and a ring value, in this order
draws-payload : draw_payload small still ≡ (record { distance = 0; parent = Some 0; ring = 5 }, record { state = 13885033948157127959; increment = 1 })
unfolding draw
draws-payload = refl

draws_not-turned : (draw_payload small still).0 ≢ record { distance = 0; parent = Some 5; ring = 0 }
unfolding draw
draws_not-turned = grind arith

-- a port: two numbers, what is staged before what is copied, and the machine's value
draws-port : draw_port small still ≡ (
  record { seq = 0; last = 0; staged = record { distance = 1; parent = Some 1; ring = 2 }; copy = record { distance = 0; parent = Some 0; ring = 1 }; value = 4 },
  record { state = 5776246781640716793; increment = 1 },
)
unfolding draw
draws-port = refl

draws_not-copy_first : (draw_port small still).0.copy ≢ record { distance = 1; parent = Some 1; ring = 2 }
unfolding draw
draws_not-copy_first = grind arith

-- a line of junk has the length that is drawn first
draws-junk : draw_junk (record { state = 13885033948157127959; increment = 1 }) ≡ (codes "Z=w9n", record { state = 5776246781640716793; increment = 1 })
unfolding draw
draws-junk = refl

draws-no_junk : draw_junk still ≡ ([], once)
unfolding draw
draws-no_junk = refl

-- the harms of a port, of a node and of a link, in their order
draws-port_harms :
    draw_port_harms small 0 1 still
    ≡ (
      Damage (harm.Counters 0 1 0 0)
          ∷ Damage (harm.Staged 0 1 (record { distance = 1; parent = Some 1; ring = 2 }))
          ∷ Damage (harm.Copy 0 1 (record { distance = 0; parent = Some 0; ring = 1 }))
          ∷ Damage (harm.Value 0 1 4) ∷ [],
      record { state = 5776246781640716793; increment = 1 },
    )
unfolding draw
draws-port_harms = refl

abbrev first_node : List Event
first_node =
    Damage (harm.Own 0 0 (Some 0))
    ∷ Damage (harm.Counters 0 1 3 4)
    ∷ Damage (harm.Staged 0 1 (record { distance = 1; parent = Some 0; ring = 4 }))
    ∷ Damage (harm.Copy 0 1 (record { distance = 1; parent = Some 1; ring = 1 }))
    ∷ Damage (harm.Value 0 1 5)
    ∷ Damage (harm.Desk 0 (Some 65535) 0 true) ∷ []

draws-node : draw_node two_nodes 0 still ≡ (first_node, record { state = 8116512559640647218; increment = 1 })
unfolding draw
draws-node = refl

abbrev one_link : List Event × Lcg
one_link = (
  Damage (harm.Empty 1 0)
      ∷ Damage (harm.Item 1 0 (Frame (record { seq = 4; ack = 4; payload = record { distance = 0; parent = Some 1; ring = 2 } }))) ∷ [],
  record { state = 10007402826525227761; increment = 1 },
)

draws-link : draw_link two_nodes 1 0 (record { state = 12360490266823512006; increment = 1 }) ≡ one_link
unfolding draw
draws-link = refl

-- node 1 of two has one link, and what is no node has none
draws-links : draw_links_from two_nodes 1 (record { state = 12360490266823512006; increment = 1 }) ≡ one_link
unfolding draw
draws-links = refl

draws-no_links : draw_links_from two_nodes 2 still ≡ ([], still)
unfolding draw
draws-no_links = refl

-- a world: first the nodes, then the links
draws-world :
    draw_world two_nodes still
    ≡ (
      first_node
          ++ Damage (harm.Own 1 0 (Some 1))
          ∷ Damage (harm.Counters 1 0 4 2)
          ∷ Damage (harm.Staged 1 0 (record { distance = 0; parent = None; ring = 6 }))
          ∷ Damage (harm.Copy 1 0 (record { distance = 0; parent = None; ring = 3 }))
          ∷ Damage (harm.Value 1 0 4)
          ∷ Damage (harm.Desk 1 None 0 true)
          ∷ Damage (harm.Empty 0 1)
          ∷ Damage (harm.Item 0 1 Noise)
          ∷ Damage (harm.Empty 1 0) ∷ [],
      record { state = 17312892106615765858; increment = 1 },
    )
unfolding draw
draws-world = refl

draws_not-link_first : (draw_world two_nodes still).0 ≢ Damage (harm.Empty 0 1) ∷ []
unfolding draw
draws_not-link_first = grind arith

-- ---- a node's state: the same draws, written

scrambles-own : (node_scrambled small (1 ∷ []) (default_node small) still).0.distance ≡ 0
unfolding draw
scrambles-own = refl

scrambles-parent : (node_scrambled small (1 ∷ []) (default_node small) still).0.parent ≡ Some 0
unfolding draw
scrambles-parent = refl

scrambles-port : (node_scrambled small (1 ∷ []) (default_node small) still).0.port 1
    ≡ record { seq = 3; last = 4; staged = record { distance = 1; parent = Some 0; ring = 4 }; copy = record { distance = 1; parent = Some 1; ring = 1 } }
unfolding draw
scrambles-port = refl

scrambles-value : (node_scrambled small (1 ∷ []) (default_node small) still).0.value 1 ≡ 5
unfolding draw
scrambles-value = refl

scrambles-draws : (node_scrambled small (1 ∷ []) (default_node small) still).1 ≡ record { state = 7783159857423531983; increment = 1 }
unfolding draw
scrambles-draws = refl

-- what leads to no neighbour stays, and so does the desk
scrambles_not-other : (node_scrambled small (1 ∷ []) (default_node small) still).0.port 0 ≡ (default_node small).port 0
unfolding draw
scrambles_not-other = refl

scrambles_not-desk : (node_scrambled small (1 ∷ []) (default_node small) still).0.desk ≡ (default_node small).desk
unfolding draw
scrambles_not-desk = refl

scrambles-no_port : ports_scrambled small [] (default_node small) still ≡ (default_node small, still)
scrambles-no_port = refl
