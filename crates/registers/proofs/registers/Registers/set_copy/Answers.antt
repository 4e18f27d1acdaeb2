use Rattle.std.proofs.Common.{rules, refl, IsOk}
use Rattle.data_link.specs.topology.Ranges.{payload_fits}
use Rattle.data_link.specs.Port.{PortView}
use Rattle.registers.proofs.Places.{port_place, registers-written, port_changed_on_ok, refused_here, unchanged_on_err}
use Rattle.registers.proofs.registers.Registers.set_copy.Goals as goal

pub index_mut-requires : goal.index_mut-requires
index_mut-requires g c = port_place _ c.args.port c.self.inside.ports.len c.self.invariant.1 (rw (← c.self.view_is) at c.requires) c.self.inside.ports.ok.0

pub invariant_of-self : goal.invariant_of-self
invariant_of-self g c =
    let near = rw (← c.self.view_is) at c.requires in
    (c.self.invariant.0, registers-written _ c.args.port c.index_mut.result.now c.set_copy.new.self (λ (p : PortView). record p.state { copy = c.args.payload }) (λ ranges. payload_fits ranges c.args.payload) c.set_copy.result c.self.invariant.1 near c.index_mut.ensures.value c.set_copy.ensures.variant c.set_copy.ensures.ok c.set_copy.ensures.out_of_range (λ was fits. search rules))

pub returns-clause-variant : goal.returns-clause-variant
returns-clause-variant g c =
    let near = rw (← c.self.view_is) at c.requires in
    rw (← c.self.view_is) (refused_here _ c.args.port c.index_mut.result.now (IsOk c.set_copy.result) (λ ranges. payload_fits ranges c.args.payload) c.self.invariant.1 near c.index_mut.ensures.value c.set_copy.ensures.variant)

pub returns-clause-port : goal.returns-clause-port
returns-clause-port g c =
    let near = rw (← c.self.view_is) at c.requires in
    rw (← c.self.view_is) (port_changed_on_ok _ c.args.port c.index_mut.result.now c.set_copy.new.self (λ (p : PortView). record p.state { copy = c.args.payload }) c.set_copy.result c.self.invariant.1 near c.index_mut.ensures.value c.set_copy.ensures.ok)

pub returns-clause-rest : goal.returns-clause-rest
returns-clause-rest g c = rw (← c.self.view_is) refl

pub returns-clause-out_of_range : goal.returns-clause-out_of_range
returns-clause-out_of_range g c = rw (← c.self.view_is) (unchanged_on_err _ c.args.port c.index_mut.result.now c.set_copy.new.self c.set_copy.result c.index_mut.ensures.value c.set_copy.ensures.out_of_range)
