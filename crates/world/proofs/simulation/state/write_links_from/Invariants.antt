use Rattle.std.proofs.Common.{◌≤◌, take}
use Rattle.std.specs.List.{flat_map}
use Rattle.topology.specs.Network.{neighbours_of}
use Rattle.world.specs.StateText.{link_line}
use Rattle.byte_streams.specs.Streams.{Takes}
use Rattle.judge.specs.configuration.ConfigurationView.{world_of}
use Rattle.world.proofs.simulation.state.write_links_from.Given as goal

-- the lines of the links to the first neighbours were written
abbrev pub invariant-loop-to : goal.invariant-loop-to
invariant-loop-to g l =
    Takes (flat_map (link_line (world_of l.configuration) l.from) (take l.to-index (neighbours_of (world_of l.configuration).net l.from)))
    (g.W.Sink.taken l.fn.sink) (g.W.Sink.taken l.sink)
    × (g.W.Sink.failures l.fn.sink ≤ g.W.Sink.failures l.sink)
