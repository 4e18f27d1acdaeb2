use Rattle.std.proofs.Common.{◌≡◌, ◌<◌, ◌∙◌, subst, sym}
use Rattle.node_core.specs.Site.{Site, site_of}
use Rattle.node_connections.specs.Loose.{AreLoose}
use Rattle.node_loop.proofs.run.NodeRun.tick.Goals as goal

pub invariant_of-self-clause-site : goal.invariant_of-self-clause-site
invariant_of-self-clause-site g c =
    let self = c.args.self.now in
    let acts = c.tick-ticked.ensures.node.acts in
    subst (λ (site : Site). site.id < self.net.nodes) (sym (acts.leaves.site ∙ acts.site)) self.site

pub invariant_of-self-clause-wired : goal.invariant_of-self-clause-wired
invariant_of-self-clause-wired g c =
    let self = c.args.self.now in
    let acts = c.tick-ticked.ensures.node.acts in
    subst (λ (site : Site). site ≡ site_of self.net site.id) (sym (acts.leaves.site ∙ acts.site)) self.wired

pub invariant_of-self-clause-ports_are : goal.invariant_of-self-clause-ports_are
invariant_of-self-clause-ports_are g c = c.args.self.now.ports_are

pub invariant_of-self-clause-strangers : goal.invariant_of-self-clause-strangers
invariant_of-self-clause-strangers g c =
    let self = c.args.self.now in
    let acts = c.tick-ticked.ensures.node.acts in
    subst (λ (site : Site). AreLoose site.neighbours self.ports.items) (sym (acts.leaves.site ∙ acts.site)) self.strangers

pub returns-clause-node : goal.returns-clause-node
returns-clause-node g c = c.tick-ticked.ensures.node

pub returns-clause-connected : goal.returns-clause-connected
returns-clause-connected g c = c.tick-ticked.ensures.connected
