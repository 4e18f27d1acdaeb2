use Rattle.std.proofs.Common.{◌≡◌, drop}
use Rattle.topology.specs.Network.{neighbours_of}
use Rattle.topology.specs.Ranges.{ranges_of}
use Rattle.run_model.specs.node_core.View.{site_in, state_of}
use Rattle.damage_tool.specs.Scrambled.{node_scrambled, ports_scrambled}
use Rattle.damage_tool.proofs.node.scramble_node.Given as goal

-- what is still to be scrambled are the ports to the neighbours that are left
abbrev pub invariant-loop-port : goal.invariant-loop-port
invariant-loop-port g l =
    let r = ranges_of l.fn.net in
    (node_scrambled r (neighbours_of l.fn.net (site_in l.fn.node).id) (state_of l.fn.node) l.fn.generator
    ≡ ports_scrambled r (drop l.port-index l.neighbours) (state_of l.node) l.generator)
    × (site_in l.node ≡ site_in l.fn.node)
