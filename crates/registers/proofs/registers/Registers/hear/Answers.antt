use Rattle.std.proofs.Common.{◌∙◌, ap, refl}
use Rattle.data_link.specs.topology.Ranges.{frame_fits, payload_fits}
use Rattle.data_link.specs.Heard.{heard_of}
use Rattle.data_link.specs.Port.{PortView, port_after}
use Rattle.registers.proofs.Places.{port_place, fits_here, port_heard, port_read, registers-with_port, port_changed}
use Rattle.registers.proofs.registers.Registers.hear.Goals as goal

pub index_mut-requires : goal.index_mut-requires
index_mut-requires g c = port_place _ c.args.port c.self.inside.ports.len c.self.invariant.1 (rw (← c.self.view_is) at c.requires.neighbour) c.self.inside.ports.ok.0

pub on_frame-requires-clause-frame_fits : goal.on_frame-requires-clause-frame_fits
on_frame-requires-clause-frame_fits g c =
    let near = rw (← c.self.view_is) at c.requires.neighbour in
    let fits = rw (← c.self.view_is) at c.requires.frame_fits in
    fits_here _ c.args.port c.index_mut.result.now (λ ranges. frame_fits ranges c.args.frame.now) c.self.invariant.1 near c.index_mut.ensures.value fits

pub on_frame-requires-clause-present_fits : goal.on_frame-requires-clause-present_fits
on_frame-requires-clause-present_fits g c =
    let near = rw (← c.self.view_is) at c.requires.neighbour in
    let fits = rw (← c.self.view_is) at c.requires.present_fits in
    fits_here _ c.args.port c.index_mut.result.now (λ ranges. payload_fits ranges c.args.present) c.self.invariant.1 near c.index_mut.ensures.value fits

pub invariant_of-self : goal.invariant_of-self
invariant_of-self g c =
    let near = rw (← c.self.view_is) at c.requires.neighbour in
    let frame_fits = rw (← c.self.view_is) at c.requires.frame_fits in
    let present_fits = rw (← c.self.view_is) at c.requires.present_fits in
    let heard = port_heard _ c.args.port c.index_mut.result.now c.on_frame.new.self c.args.frame.now c.args.present c.self.invariant.1 near c.index_mut.ensures.value c.on_frame.ensures.port
    (λ fits. c.ports.ensures c.self.inside.ranges c.index_mut.result.now.state c.args.frame.now c.args.present fits frame_fits present_fits) in
    (c.self.invariant.0, registers-with_port _ _ _ c.self.invariant.1 near heard)

pub returns-clause-port : goal.returns-clause-port
returns-clause-port g c =
    let near = rw (← c.self.view_is) at c.requires.neighbour in
    let change = λ (p : PortView). port_after p.ranges.counter p.state c.args.frame.now c.args.present in
    rw (← c.self.view_is)
    (port_changed _ c.args.port c.index_mut.result.now c.on_frame.new.self change c.self.invariant.1 near c.index_mut.ensures.value c.on_frame.ensures.port)

pub returns-clause-rest : goal.returns-clause-rest
returns-clause-rest g c = rw (← c.self.view_is) refl

pub returns-clause-heard : goal.returns-clause-heard
returns-clause-heard g c =
    let near = rw (← c.self.view_is) at c.requires.neighbour in
    let read = port_read _ c.args.port c.index_mut.result.now c.self.invariant.1 near c.index_mut.ensures.value in
    rw (← c.self.view_is) (c.on_frame.ensures.heard ∙ ap (λ (p : PortView). heard_of p.state c.args.frame.now) read)
