use Rattle.std.proofs.Common.{ap}
use Rattle.registers.specs.Registers.{port_of}
use Rattle.node_core.specs.View.{NodeView}
use Rattle.node_core.proofs.InRange.{own_kept}
use Rattle.node_core.proofs.Written.{port_written, unwritten, site_with_ports}
use Rattle.node_core.proofs.node.Node.set_copy.Goals as goal

pub set_copy-requires : goal.set_copy-requires
set_copy-requires g c = rw (← c.self.view_is) at c.requires

pub invariant_of-self : goal.invariant_of-self
invariant_of-self g c =
    let n = c.self.inside in
    let v : NodeView = record { id = n.id; is_root = n.is_root; distance = n.distance; parent = n.parent; registers = n.registers; desk = n.desk } in
    own_kept v c.set_copy.new.self (ap (λ r. r.ranges) c.set_copy.ensures.rest) c.self.invariant

pub returns-clause-variant : goal.returns-clause-variant
returns-clause-variant g c = rw (← c.self.view_is) c.set_copy.ensures.variant

pub returns-clause-ok : goal.returns-clause-ok
returns-clause-ok g c =
    let n = c.self.inside in
    let v : NodeView = record { id = n.id; is_root = n.is_root; distance = n.distance; parent = n.parent; registers = n.registers; desk = n.desk } in
    rw (← c.self.view_is) (port_written v c.set_copy.new.self c.args.port (record (port_of n.registers c.args.port) { copy = c.args.payload }) c.set_copy.result c.set_copy.ensures.port c.set_copy.ensures.rest)

pub returns-clause-out_of_range : goal.returns-clause-out_of_range
returns-clause-out_of_range g c =
    let n = c.self.inside in
    let v : NodeView = record { id = n.id; is_root = n.is_root; distance = n.distance; parent = n.parent; registers = n.registers; desk = n.desk } in
    rw (← c.self.view_is) (unwritten v c.set_copy.new.self c.set_copy.result c.set_copy.ensures.out_of_range)

pub returns-clause-site : goal.returns-clause-site
returns-clause-site g c =
    let n = c.self.inside in
    let v : NodeView = record { id = n.id; is_root = n.is_root; distance = n.distance; parent = n.parent; registers = n.registers; desk = n.desk } in
    rw (← c.self.view_is) (site_with_ports v c.set_copy.new.self c.set_copy.ensures.rest)
