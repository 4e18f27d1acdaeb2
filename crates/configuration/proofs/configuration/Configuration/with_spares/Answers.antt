use Rattle.configuration.proofs.NewNodes.{new-world}
use Rattle.configuration.proofs.configuration.Configuration.with_spares.Goals as goal

pub returns : goal.returns
returns g c =
    new-world c.args.net.now c.in_ok-nodes.nodes.items c.in_ok-links.links c.args.pairs c.in_ok-links.ensures.net c.in_ok-links.ensures.spares c.in_ok-links.ensures.empty
    c.in_ok-nodes.ensures.states
