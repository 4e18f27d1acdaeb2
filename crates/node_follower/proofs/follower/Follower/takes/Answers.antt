use Rattle.std.proofs.Common.{◌≡◌, rules, Contains}
use Rattle.link_model.specs.declared.item.Item.TheVariants as item
use Rattle.node_core.specs.Step.{taken}
use Rattle.node_core.specs.View.{site_in, state_of}
use Rattle.node_follower.proofs.follower.Follower.takes.Goals as goal

pub returns-clause-leads : goal.returns-clause-leads
returns-clause-leads g c _ =
    let now = c.args.self.now in
    let has : Contains now.registers.neighbours c.args.from = search rules in
    let state : state_of c.take.new.self ≡ taken (site_in now) c.args.from (item.Frame c.args.frame) (state_of now) =
    rw c.self.view_is at c.take.ensures.state in
    (has, state)
