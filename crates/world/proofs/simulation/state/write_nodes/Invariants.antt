use Rattle.std.proofs.Common.{◌≤◌, take}
use Rattle.std.specs.List.{flat_map, range_with_len}
use Rattle.world.specs.StateText.{node_line}
use Rattle.byte_streams.specs.Streams.{Takes}
use Rattle.judge.specs.configuration.ConfigurationView.{world_of}
use Rattle.world.proofs.simulation.state.write_nodes.Given as goal

-- what is written for the nodes below `v` was written
abbrev pub invariant-loop-v : goal.invariant-loop-v
invariant-loop-v g l =
    Takes (flat_map (node_line (world_of l.configuration)) (take l.v (range_with_len 0 (world_of l.configuration).net.nodes)))
    (g.W.Sink.taken l.fn.sink) (g.W.Sink.taken l.sink)
    × (g.W.Sink.failures l.fn.sink ≤ g.W.Sink.failures l.sink)
