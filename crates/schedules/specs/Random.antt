-- The random schedule: which steps are drawn from a generator's successive words.
use Rattle.std.specs.Prelude.{ℕ, ◌==◌, if◌then◌else◌, is_some, nat_lt, zero, suc, List, [], ◌∷◌, length, get_or}
use Rattle.rand_pcg.specs.Lcg.{Lcg}
use Rattle.topology.specs.Network.{Edge, Network}
use Rattle.damage_tool.specs.Draws.{draw}
use Rattle.configuration.specs.run_model.World.{World}
use Rattle.configuration.specs.run_model.Step.{refusal, step}
use Rattle.configuration.specs.run_model.declared.event.Event.{Event}
use Rattle.configuration.specs.run_model.declared.event.Event.TheVariants.{Send, Take, Lose, Tick, Ask, Leave, Damage}
use Rattle.schedules.specs.declared.random.Chances.{Chances}

-- a link: an edge, and one of its two directions
abbrev pub draw_link : Network → Lcg → Edge × Lcg
draw_link net g =
    let at = draw (length net.edges) g in
    let way = draw 2 at.1 in
    let edge = get_or net.edges at.0 (0, 0) in
    (if way.0 == 0 then edge else (edge.1, edge.0), way.1)

-- an arrival on a link: `loss` of a hundred are losses
abbrev pub draw_arrival : Network → ℕ → Lcg → Event × Lcg
draw_arrival net loss g =
    let link = draw_link net g in
    let percent = draw 100 link.1 in
    (if nat_lt percent.0 loss then Lose link.0.0 link.0.1 0 else Take link.0.0 link.0.1, percent.1)

-- what a client does: with one of 16 tickets it asks at a node, or leaves
abbrev pub draw_client : Network → Lcg → Event × Lcg
draw_client net g =
    let node = draw net.nodes g in
    let ticket = draw 16 node.1 in
    let way = draw 2 ticket.1 in
    (if way.0 == 0 then Ask node.0 ticket.0 else Leave node.0 ticket.0, way.1)

-- A step: one of three kinds, or of four if there are clients; a tick, a send, an arrival, or
-- what a client does.
abbrev pub draw_step : Network → Chances → Lcg → Event × Lcg
draw_step net c g =
    let kind = draw (if c.clients then 4 else 3) g in
    let node = draw net.nodes kind.1 in
    let link = draw_link net kind.1 in
    if kind.0 == 0 then (Tick node.0, node.1)
    else if kind.0 == 1 then (Send link.0.0 link.0.1, link.1)
    else if kind.0 == 2 then draw_arrival net c.loss kind.1
    else draw_client net kind.1

-- the node that takes part in a step; for a link, the node that it leads to
abbrev pub node_at : Event → ℕ
node_at (Send u v) = v
node_at (Take u v) = v
node_at (Lose u v i) = v
node_at (Tick v) = v
node_at (Ask v t) = v
node_at (Leave v t) = v
node_at (Damage h) = 0

-- a step that would be refused is a tick of its node
abbrev pub admitted : World → Event → Event
admitted w e = if is_some (refusal w e) then Tick (node_at e) else e

-- n steps
abbrev pub random_steps : World → Chances → ℕ → Lcg → List Event
random_steps w c zero g = []
random_steps w c (suc n) g =
    let drawn = draw_step w.net c g in
    let next = admitted w drawn.0 in
    next ∷ random_steps (step w next) c n drawn.1
