use Rattle.std.proofs.Common.{ap}
use Rattle.node_core.specs.View.{NodeView}
use Rattle.node_core.proofs.InRange.{own_kept}
use Rattle.node_core.proofs.Written.{value_written, unwritten, site_with_values}
use Rattle.node_core.proofs.node.Node.set_value.Goals as goal

pub set_value-requires : goal.set_value-requires
set_value-requires g c = rw (← c.self.view_is) at c.requires

pub invariant_of-self : goal.invariant_of-self
invariant_of-self g c =
    let n = c.self.inside in
    let v : NodeView = record { id = n.id; is_root = n.is_root; distance = n.distance; parent = n.parent; registers = n.registers; desk = n.desk } in
    own_kept v c.set_value.new.self (ap (λ r. r.ranges) c.set_value.ensures.rest) c.self.invariant

pub returns-clause-variant : goal.returns-clause-variant
returns-clause-variant g c = rw (← c.self.view_is) c.set_value.ensures.variant

pub returns-clause-ok : goal.returns-clause-ok
returns-clause-ok g c =
    let n = c.self.inside in
    let v : NodeView = record { id = n.id; is_root = n.is_root; distance = n.distance; parent = n.parent; registers = n.registers; desk = n.desk } in
    rw (← c.self.view_is) (value_written v c.set_value.new.self c.args.port c.args.value c.set_value.result c.set_value.ensures.value c.set_value.ensures.rest)

pub returns-clause-out_of_range : goal.returns-clause-out_of_range
returns-clause-out_of_range g c =
    let n = c.self.inside in
    let v : NodeView = record { id = n.id; is_root = n.is_root; distance = n.distance; parent = n.parent; registers = n.registers; desk = n.desk } in
    rw (← c.self.view_is) (unwritten v c.set_value.new.self c.set_value.result c.set_value.ensures.out_of_range)

pub returns-clause-site : goal.returns-clause-site
returns-clause-site g c =
    let n = c.self.inside in
    let v : NodeView = record { id = n.id; is_root = n.is_root; distance = n.distance; parent = n.parent; registers = n.registers; desk = n.desk } in
    rw (← c.self.view_is) (site_with_values v c.set_value.new.self c.set_value.ensures.rest)
