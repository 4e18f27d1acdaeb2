use Rattle.std.proofs.Common.{◌≤◌, take}
use Rattle.std.specs.List.{flat_map, range_with_len}
use Rattle.world.specs.StateText.{links_from}
use Rattle.byte_streams.specs.Streams.{Takes}
use Rattle.judge.specs.configuration.ConfigurationView.{world_of}
use Rattle.world.proofs.simulation.state.write_links.Given as goal

-- what is written for the nodes below `from` was written
abbrev pub invariant-loop-from : goal.invariant-loop-from
invariant-loop-from g l =
    Takes (flat_map (links_from (world_of l.configuration)) (take l.from (range_with_len 0 (world_of l.configuration).net.nodes)))
    (g.W.Sink.taken l.fn.sink) (g.W.Sink.taken l.sink)
    × (g.W.Sink.failures l.fn.sink ≤ g.W.Sink.failures l.sink)
