use Rattle.configuration.specs.ConfigurationView.{world_of}
use Rattle.layers.specs.Stages.{IsLinkAtStage}
use Rattle.layers.proofs.Stages.{neighbour-in, one-fails, one-more, each-joined}
use Rattle.layers.proofs.tree.are_links_at_stage.Goals as goal

pub is_link_at_stage-requires-clause-other : goal.is_link_at_stage-requires-clause-other
is_link_at_stage-requires-clause-other g c = neighbour-in c.args.v c.net-net.ensures c.neighbours-u-items.ensures c.neighbours.ensures.joined c.loop-u-test.true

pub returns-then-not-is_link_at_stage : goal.returns-then-not-is_link_at_stage
returns-then-not-is_link_at_stage g c =
    one-fails c.args.v c.net-net.ensures c.neighbours-u-items.ensures c.neighbours.ensures.joined c.loop-u-test.true
    (IsLinkAtStage c.args.stage (world_of c.args.configuration.now) c.args.v) c.is_link_at_stage.ensures c.if-not-is_link_at_stage.true

pub loop-u-preserved : goal.loop-u-preserved
loop-u-preserved g c =
    one-more c.args.v c.net-net.ensures c.neighbours-u-items.ensures c.neighbours.ensures.joined c.loop-u-test.true
    (IsLinkAtStage c.args.stage (world_of c.args.configuration.now) c.args.v) c.is_link_at_stage.ensures c.if-not-is_link_at_stage.false c.loop-u.invariant

pub returns : goal.returns
returns g c =
    each-joined c.args.v c.net-net.ensures c.neighbours-u-items.ensures c.neighbours.ensures.joined c.joined.ensures.nodes c.nodes-known_nodes.ensures.network
    (IsLinkAtStage c.args.stage (world_of c.args.configuration.now) c.args.v) c.loop-u-test.false c.loop-u.invariant
