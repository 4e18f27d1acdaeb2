use Rattle.std.proofs.Common.{◌∙◌, ◌+◌, ap, sym, subst, Option}
use Rattle.configuration.specs.ConfigurationView.{world_of}
use Rattle.record_gathering.specs.declared.order.First.{First}
use Rattle.record_gathering.specs.Firsts.{with_head}
use Rattle.record_gathering.proofs.Orders.{IsFirst, first-more}
use Rattle.record_gathering.proofs.order.next_node.Goals as goal

pub loop-node-preserved : goal.loop-node-preserved
loop-node-preserved g c =
    let w = world_of c.args.world.now in
    let n = c.loop-node.node in
    subst (λ (o : Option First). IsFirst w c.args.heads.now (n + 1) o)
    (sym (c.with_head-first.ensures ∙ ap (λ o. with_head w n o c.loop-node.first) c.head_of.ensures))
    (first-more w c.args.heads.now n c.loop-node.first c.loop-node.invariant)
