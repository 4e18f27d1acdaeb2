use Rattle.std.proofs.Common.{◌≡◌, ◌∙◌, ◌<◌, ◌≢◌, true, false, ap, sym, refl, subst, IsTrue}
use Rattle.std.proofs.lemmas.Bool.{and_parts}
use Rattle.std.proofs.lemmas.List.Elements.{All-contains}
use Rattle.registers.specs.topology.Ranges.{frame_fits}
use Rattle.registers.specs.topology.declared.frame.Ranges.{Ranges}
use Rattle.registers.specs.data_link.Port.{port_after}
use Rattle.registers.specs.Registers.{port_of}
use Rattle.node_core.specs.View.{NodeView}
use Rattle.node_core.proofs.Heard.{taken_unfit, taken_heard, same_if_not_acked}
use Rattle.node_core.proofs.InRange.{own_kept}
use Rattle.node_core.proofs.Written.{site_with_ports}
use Rattle.node_core.proofs.node.Node.take.Goals as goal

pub returns-in_default-clause-state : goal.returns-in_default-clause-state
returns-in_default-clause-state g c = rw c.in_default.is refl

pub returns-in_default-clause-site : goal.returns-in_default-clause-site
returns-in_default-clause-site g c = refl

pub returns-then-not-fits-clause-state : goal.returns-then-not-fits-clause-state
returns-then-not-fits-clause-state g c =
    let unfit = subst (λ (r : Ranges). false ≡ frame_fits r c.in-Frame.frame) c.ranges-2.ensures.ranges c.if-not-fits.ensures in
    let n = c.self.inside in
    let v : NodeView = record { id = n.id; is_root = n.is_root; distance = n.distance; parent = n.parent; registers = n.registers; desk = n.desk } in
    rw (← c.self.view_is, c.in-Frame.is) (taken_unfit v c.args.port c.in-Frame.frame unfit)

pub returns-then-not-fits-clause-site : goal.returns-then-not-fits-clause-site
returns-then-not-fits-clause-site g c = refl

pub seq-requires : goal.seq-requires
seq-requires g c =
    let near = rw (← c.self.view_is) at c.requires in
    All-contains (λ w. w < c.self.inside.registers.ranges.nodes) c.self.inside.registers.neighbours c.args.port c.ranges-2.ensures.registers.neighbours_in near

pub payload_for-present-requires : goal.payload_for-present-requires
payload_for-present-requires g c =
    let near = rw (← c.self.view_is) at c.requires in
    rw (← c.self.view_is) (All-contains (λ w. w < c.self.inside.registers.ranges.nodes) c.self.inside.registers.neighbours c.args.port c.ranges-2.ensures.registers.neighbours_in near)

pub hear-heard-requires-clause-neighbour : goal.hear-heard-requires-clause-neighbour
hear-heard-requires-clause-neighbour g c = rw (← c.self.view_is) at c.requires

pub hear-heard-requires-clause-frame_fits : goal.hear-heard-requires-clause-frame_fits
hear-heard-requires-clause-frame_fits g c = subst (λ (r : Ranges). IsTrue (frame_fits r c.in-Frame.frame)) c.ranges-2.ensures.ranges (sym c.if-not-fits.ensures)

pub hear-heard-requires-clause-present_fits : goal.hear-heard-requires-clause-present_fits
hear-heard-requires-clause-present_fits g c = rw (← c.self.view_is) at c.payload_for-present.ensures.fits

pub hear-heard-requires-else-frame-seq-clause-neighbour : goal.hear-heard-requires-else-frame-seq-clause-neighbour
hear-heard-requires-else-frame-seq-clause-neighbour g c = rw (← c.self.view_is) at c.requires

pub hear-heard-requires-else-frame-seq-clause-frame_fits : goal.hear-heard-requires-else-frame-seq-clause-frame_fits
hear-heard-requires-else-frame-seq-clause-frame_fits g c = subst (λ (r : Ranges). IsTrue (frame_fits r c.in-Frame.frame)) c.ranges-2.ensures.ranges (sym c.if-not-fits.ensures)

pub hear-heard-requires-else-frame-seq-clause-present_fits : goal.hear-heard-requires-else-frame-seq-clause-present_fits
hear-heard-requires-else-frame-seq-clause-present_fits g c =
    let fits = subst (λ (r : Ranges). IsTrue (frame_fits r c.in-Frame.frame)) c.ranges-2.ensures.ranges (sym c.if-not-fits.ensures) in
    (and_parts _ _ (and_parts _ _ fits).1).1

pub invariant_of-self : goal.invariant_of-self
invariant_of-self g c =
    let n = c.self.inside in
    let v : NodeView = record { id = n.id; is_root = n.is_root; distance = n.distance; parent = n.parent; registers = n.registers; desk = n.desk } in
    own_kept v c.hear-heard.new.self (ap (λ r. r.ranges) c.hear-heard.ensures.rest) c.self.invariant

pub invariant_of-self-else-frame-seq : goal.invariant_of-self-else-frame-seq
invariant_of-self-else-frame-seq g c =
    let n = c.self.inside in
    let v : NodeView = record { id = n.id; is_root = n.is_root; distance = n.distance; parent = n.parent; registers = n.registers; desk = n.desk } in
    own_kept v c.hear-heard-else-frame-seq.new.self (ap (λ r. r.ranges) c.hear-heard-else-frame-seq.ensures.rest) c.self.invariant

pub returns-then-frame-seq-clause-state : goal.returns-then-frame-seq-clause-state
returns-then-frame-seq-clause-state g c =
    let n = c.self.inside in
    let v : NodeView = record { id = n.id; is_root = n.is_root; distance = n.distance; parent = n.parent; registers = n.registers; desk = n.desk } in
    let fits = subst (λ (r : Ranges). true ≡ frame_fits r c.in-Frame.frame) c.ranges-2.ensures.ranges c.if-not-fits.ensures in
    let said = rw (← c.self.view_is) at c.payload_for-present.ensures.payload in
    let same = ap (port_after n.registers.ranges.counter (port_of n.registers c.args.port) c.in-Frame.frame) said in
    rw (← c.self.view_is, c.in-Frame.is)
    (taken_heard v c.hear-heard.new.self c.args.port c.in-Frame.frame c.payload_for-present.result fits c.hear-heard.ensures.port c.hear-heard.ensures.rest same)

pub returns-then-frame-seq-clause-site : goal.returns-then-frame-seq-clause-site
returns-then-frame-seq-clause-site g c =
    let n = c.self.inside in
    let v : NodeView = record { id = n.id; is_root = n.is_root; distance = n.distance; parent = n.parent; registers = n.registers; desk = n.desk } in
    rw (← c.self.view_is) (site_with_ports v c.hear-heard.new.self c.hear-heard.ensures.rest)

pub returns-else-frame-seq-clause-state : goal.returns-else-frame-seq-clause-state
returns-else-frame-seq-clause-state g c =
    let n = c.self.inside in
    let v : NodeView = record { id = n.id; is_root = n.is_root; distance = n.distance; parent = n.parent; registers = n.registers; desk = n.desk } in
    let fits = subst (λ (r : Ranges). true ≡ frame_fits r c.in-Frame.frame) c.ranges-2.ensures.ranges c.if-not-fits.ensures in
    let other : c.in-Frame.frame.ack ≢ (port_of n.registers c.args.port).seq = λ e. c.if-frame-seq.false (e ∙ sym c.seq.ensures.seq) in
    let same = same_if_not_acked n.registers.ranges.counter (port_of n.registers c.args.port) c.in-Frame.frame c.in-Frame.frame.payload _ other in
    rw (← c.self.view_is, c.in-Frame.is)
    (taken_heard v c.hear-heard-else-frame-seq.new.self c.args.port c.in-Frame.frame c.in-Frame.frame.payload fits c.hear-heard-else-frame-seq.ensures.port c.hear-heard-else-frame-seq.ensures.rest same)

pub returns-else-frame-seq-clause-site : goal.returns-else-frame-seq-clause-site
returns-else-frame-seq-clause-site g c =
    let n = c.self.inside in
    let v : NodeView = record { id = n.id; is_root = n.is_root; distance = n.distance; parent = n.parent; registers = n.registers; desk = n.desk } in
    rw (← c.self.view_is) (site_with_ports v c.hear-heard-else-frame-seq.new.self c.hear-heard-else-frame-seq.ensures.rest)
