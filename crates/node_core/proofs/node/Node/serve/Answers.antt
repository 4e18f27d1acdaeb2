use Rattle.std.proofs.Common.{rules, ◌≡◌, true, false, is_none}
use Rattle.node_core.specs.View.{NodeView}
use Rattle.node_core.proofs.Ticks.{ticked_full, ticked_lending, desk_is_after}
use Rattle.node_core.proofs.node.Node.serve.Goals as goal

pub returns-then-full-clause-state : goal.returns-then-full-clause-state
returns-then-full-clause-state g c =
    let n = c.self.inside in
    let v : NodeView = record { id = n.id; is_root = n.is_root; distance = n.distance; parent = n.parent; registers = n.registers; desk = n.desk } in
    let on = c.tree-tree.ensures.tree in
    let none : is_none c.tick-act.new.self.state.lent ≡ true = search rules in
    let after = desk_is_after v c.tick-act.new.self c.some_may_move.result c.tree-tree.result on c.some_may_move.ensures c.tick-act.ensures.ticked in
    rw (← c.self.view_is)
    (ticked_full v c.move_machines.new.registers c.tick-act.new.self c.tree-tree.result after none on c.move_machines.ensures.values c.move_machines.ensures.rest)

pub returns-else-full-clause-state : goal.returns-else-full-clause-state
returns-else-full-clause-state g c =
    let n = c.self.inside in
    let v : NodeView = record { id = n.id; is_root = n.is_root; distance = n.distance; parent = n.parent; registers = n.registers; desk = n.desk } in
    let some : is_none c.tick-act.new.self.state.lent ≡ false = search rules in
    let after = desk_is_after v c.tick-act.new.self c.some_may_move.result c.tree-tree.result c.tree-tree.ensures.tree c.some_may_move.ensures c.tick-act.ensures.ticked in
    rw (← c.self.view_is) (ticked_lending v c.tick-act.new.self after some)
