use Rattle.std.proofs.Common.{◌≡◌, ◌<◌, length, refl, inr, ap, arith}
use Rattle.circular_buffer.proofs.Places.{slice_get-set_same}
use Rattle.node_connections.proofs.Loose.{loose-set}
use Rattle.node_connections.proofs.Hearing.{wired-set}
use Rattle.node_loop.proofs.Hearing.{counted-set}
use Rattle.node_loop.proofs.run.NodeRun.welcome.Goals as goal

pub invariant_of-self-clause-ports_are : goal.invariant_of-self-clause-ports_are
invariant_of-self-clause-ports_are g c = let self = c.args.self.now in counted-set self.ports.items c.args.id c.attach.new.self self.net.nodes self.ports_are

pub invariant_of-self-clause-strangers : goal.invariant_of-self-clause-strangers
invariant_of-self-clause-strangers g c =
    let self = c.args.self.now in
    loose-set self.node.registers.neighbours self.ports.items c.args.id c.attach.new.self (c.if-is_neighbour.ensures.neighbour.0 refl) self.strangers

pub returns-then-is_neighbour-clause-welcome : goal.returns-then-is_neighbour-clause-welcome
returns-then-is_neighbour-clause-welcome g c _ _ =
    let self = c.args.self.now in
    let nodes : self.node.registers.ranges.nodes ≡ self.net.nodes = ap (λ s. s.ranges.nodes) self.wired in
    let within : c.args.id < length self.ports.items = let size = self.ports_are.0 in let below = c.if-is_neighbour.ensures.node refl in omega arith in
    rw (slice_get-set_same self.ports.items c.args.id c.attach.new.self within) c.attach.ensures.stands.0

pub returns-then-is_neighbour-clause-wires : goal.returns-then-is_neighbour-clause-wires
returns-then-is_neighbour-clause-wires g c =
    let self = c.args.self.now in
    let nodes : self.node.registers.ranges.nodes ≡ self.net.nodes = ap (λ s. s.ranges.nodes) self.wired in
    let below = c.if-is_neighbour.ensures.node refl in
    wired-set self.ports.items c.args.id self.net.nodes c.index_mut.result.now c.attach.new.self self.ports_are (omega (arith, nodes, below)) c.index_mut.ensures.value
    (inr (rw c.attach.ensures.stands.0 refl, c.attach.ensures.bare, c.attach.ensures.stands.2))
