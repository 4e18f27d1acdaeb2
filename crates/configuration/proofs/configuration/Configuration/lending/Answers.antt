use Rattle.std.proofs.Common.{rules, ◌≡◌, ◌∙◌, ◌+◌, ap, sym, is_some}
use Rattle.run_model.specs.Privilege.{is_lending}
use Rattle.configuration.specs.ConfigurationView.{world_of}
use Rattle.configuration.proofs.NodeCounts.{count-yes, count-no, count-most}
use Rattle.configuration.proofs.configuration.Configuration.lending.Goals as goal
use Rattle.configuration.proofs.configuration.Configuration.lending.Goals.{then-is_some, else-is_some}

pub overflow_add-count : goal.overflow_add-count
overflow_add-count g c = let most = count-most (is_lending (world_of c.args.self.now)) c.loop-v.v c.loop-v.invariant in search (rules, most)

pub loop-v-preserved : goal.loop-v-preserved
loop-v-preserved g c =
    let same : is_lending (world_of c.args.self.now) c.loop-v.v ≡ c.is_some.result =
    ap (λ s. is_some s.desk.lent) (sym c.node.ensures.state) ∙ ap is_some (sym c.lent.ensures) ∙ sym c.is_some.ensures in
    elim c.if-is_some.branch [
      | then-is_some w ↦ w.count-is ∙ ap (λ n. n + 1) c.loop-v.invariant ∙ sym (count-yes (is_lending (world_of c.args.self.now)) c.loop-v.v (same ∙ w.if-is_some.true))
      | else-is_some w ↦ w.count-is ∙ c.loop-v.invariant ∙ sym (count-no (is_lending (world_of c.args.self.now)) c.loop-v.v (same ∙ w.if-is_some.false))
    ]
