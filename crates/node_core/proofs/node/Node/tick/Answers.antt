use Rattle.std.proofs.Common.{◌∙◌}
use Rattle.node_core.specs.Step.{desk_done, machines_moved}
use Rattle.node_core.proofs.node.Node.tick.Goals as goal

pub returns-clause-state : goal.returns-clause-state
returns-clause-state g c =
    let first = c.recompute.ensures in
    c.serve.ensures.state ∙ (λ i. machines_moved (first.site i) (desk_done (first.site i) (first.state i)))
