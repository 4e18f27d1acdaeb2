-- What a scramble of a whole world is: harms to every part of it, drawn one after the other.
use Rattle.std.specs.Prelude.{ℕ, ◌+◌, ◌==◌, if◌then◌else◌, List, [], ◌∷◌, ◌++◌, Some, None}
use Rattle.std.specs.List.{range_with_len}
use Rattle.rand_pcg.specs.Lcg.{Lcg}
use Rattle.topology.specs.Network.{Network, neighbours_of}
use Rattle.topology.specs.Ranges.{ranges_of}
use Rattle.topology.specs.declared.frame.Ranges.{Ranges}
use Rattle.run_model.specs.link_model.declared.item.Item.{Item}
use Rattle.run_model.specs.link_model.declared.item.Item.TheVariants.{Frame, Noise}
use Rattle.run_model.specs.declared.event.Event.{Event}
use Rattle.run_model.specs.declared.event.Event.TheVariants.{Damage}
use Rattle.run_model.specs.declared.event.Harm.TheVariants as harm
use Rattle.damage_tool.specs.declared.draws.PortDraw.{PortDraw}
use Rattle.damage_tool.specs.Draws.{draw, draw_parent, draw_payload, draw_port}

-- the draws for these numbers, one after the other, and their events in that order
abbrev pub draw_each : (ℕ → Lcg → List Event × Lcg) → List ℕ → Lcg → List Event × Lcg
draw_each draws [] g = ([], g)
draw_each draws (x ∷ xs) g =
    let first = draws x g in
    let rest = draw_each draws xs first.1 in
    (first.0 ++ rest.0, rest.1)

-- a node's distance and parent
abbrev pub draw_own : Ranges → ℕ → Lcg → Event × Lcg
draw_own r v g =
    let distance = draw (r.nodes + 1) g in
    let parent = draw_parent r distance.1 in
    (Damage (harm.Own v distance.0 parent.0), parent.1)

-- the harms that write a port of v to w, and the value of the machine that comes in there
abbrev pub port_harms : ℕ → ℕ → PortDraw → List Event
port_harms v w d =
    Damage (harm.Counters v w d.seq d.last)
    ∷ Damage (harm.Staged v w d.staged)
    ∷ Damage (harm.Copy v w d.copy)
    ∷ Damage (harm.Value v w d.value)
    ∷ []

-- the harms that write a drawn port of v to w
abbrev pub draw_port_harms : Ranges → ℕ → ℕ → Lcg → List Event × Lcg
draw_port_harms r v w g = let port = draw_port r g in (port_harms v w port.0, port.1)

-- A desk: whether it has served, and then, in one of three draws, no loan; else a loan to the
-- ticket 65535, with at most the lease left.
abbrev pub draw_desk : ℕ → ℕ → Lcg → Event × Lcg
draw_desk lease v g =
    let served = draw 2 g in
    let loan = draw 3 served.1 in
    let left = draw (lease + 1) loan.1 in
    if loan.0 == 0 then (Damage (harm.Desk v None 0 (served.0 == 1)), loan.1)
    else (Damage (harm.Desk v (Some 65535) left.0 (served.0 == 1)), left.1)

-- a node: its distance and parent, then each port by ascending neighbour, then its desk
abbrev pub draw_node : Network → ℕ → Lcg → List Event × Lcg
draw_node net v g =
    let own = draw_own (ranges_of net) v g in
    let ports = draw_each (draw_port_harms (ranges_of net) v) (neighbours_of net v) own.1 in
    let desk = draw_desk net.lease v ports.1 in
    ((own.0 ∷ ports.0) ++ desk.0 ∷ [], desk.1)

-- an item: noise, or a frame with its two numbers and a payload
abbrev pub draw_item : Ranges → Lcg → Item × Lcg
draw_item r g =
    let kind = draw 2 g in
    let seq = draw r.counter kind.1 in
    let ack = draw r.counter seq.1 in
    let payload = draw_payload r ack.1 in
    if kind.0 == 0 then (Noise, kind.1)
    else (Frame (record { seq = seq.0; ack = ack.0; payload = payload.0 }), payload.1)

-- a drawn item that is put on the link from u to v
abbrev pub draw_item_harm : Ranges → ℕ → ℕ → ℕ → Lcg → List Event × Lcg
draw_item_harm r u v i g = let item = draw_item r g in (Damage (harm.Item u v item.0) ∷ [], item.1)

-- the link from u to v: it is emptied, and then gets at most as many items as it holds
abbrev pub draw_link : Network → ℕ → ℕ → Lcg → List Event × Lcg
draw_link net u v g =
    let count = draw (net.capacity + 1) g in
    let items = draw_each (draw_item_harm (ranges_of net) u v) (range_with_len 0 count.0) count.1 in
    (Damage (harm.Empty u v) ∷ items.0, items.1)

-- the links that lead from u, by ascending destination
abbrev pub draw_links_from : Network → ℕ → Lcg → List Event × Lcg
draw_links_from net u g = draw_each (draw_link net u) (neighbours_of net u) g

-- a world: each node by ascending id, and then each link by ascending source and destination
abbrev pub draw_world : Network → Lcg → List Event × Lcg
draw_world net g =
    let nodes = draw_each (draw_node net) (range_with_len 0 net.nodes) g in
    let links = draw_each (draw_links_from net) (range_with_len 0 net.nodes) nodes.1 in
    (nodes.0 ++ links.0, links.1)
