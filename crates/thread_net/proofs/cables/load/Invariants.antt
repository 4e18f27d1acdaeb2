use Rattle.std.proofs.Common.{◌≡◌, ◌+◌, take}
use Rattle.judge.specs.configuration.LinksView.{under_way}
use Rattle.rtrb.specs.Ring.{sent, known_free, SameProducer}
use Rattle.node_runner.specs.Ports.{opening}
use Rattle.thread_net.proofs.cables.load.Given as goal

abbrev pub invariant-loop-index : goal.invariant-loop-index
invariant-loop-index g l =
    SameProducer l.fn.frames l.frames
    × (sent l.frames ≡ opening (take l.index (under_way l.links l.from l.to)))
    × (known_free l.frames + l.index ≡ known_free l.fn.frames)
