use Rattle.std.proofs.Common.{◌∙◌, ap}
use Rattle.std.specs.List.{list_any}
use Rattle.euler_ring.specs.Cycle.{special}
use Rattle.node_core.specs.OnRegisters.{machine_may_move}
use Rattle.node_core.proofs.node.Node.privileged.Goals as goal

pub returns : goal.returns
returns g c =
    let inside = c.self.inside in
    rw (← c.self.view_is)
    (c.some_may_move.ensures ∙ ap (λ ts. list_any (machine_may_move inside.registers (special inside.is_root ts)) ts) c.tree-tree.ensures.tree)
