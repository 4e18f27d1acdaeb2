use Rattle.std.proofs.Common.{◌≡◌, ◌<◌, ◌&&◌, true, Some, inl, length, refl, slice_get, arith}
use Rattle.std.specs.Prelude.{is_none}
use Rattle.std.proofs.lemmas.Option.{slice_get_read}
use Rattle.node_connections.specs.declared.port.NodePort.{NodePort}
use Rattle.node_connections.specs.Loose.{is_linked}
use Rattle.node_connections.proofs.Loose.{loose-set}
use Rattle.node_connections.proofs.Hearing.{both-same, wired-same, wired-set}
use Rattle.node_loop.proofs.Hearing.{changed-there, counted-set}
use Rattle.node_loop.proofs.run.NodeRun.call_on.Goals as goal

pub invariant_of-self-clause-ports_are : goal.invariant_of-self-clause-ports_are
invariant_of-self-clause-ports_are g c = counted-set c.args.self.now.ports.items c.args.id c.greet.new.self c.args.self.now.net.nodes c.args.self.now.ports_are

pub invariant_of-self-clause-strangers : goal.invariant_of-self-clause-strangers
invariant_of-self-clause-strangers g c = loose-set c.args.self.now.node.registers.neighbours c.args.self.now.ports.items c.args.id c.greet.new.self c.requires.neighbour c.args.self.now.strangers

pub returns-in-Came-clause-links : goal.returns-in-Came-clause-links
returns-in-Came-clause-links g c = changed-there (λ old new. (new.link ≡ old.link) × (new.is_stuck ≡ old.is_stuck)) c.args.self.now.ports.items c.args.id c.args.self.now.net.nodes c.index_mut.result.now c.greet.new.self c.args.self.now.ports_are c.requires.node c.index_mut.ensures.value (c.greet.ensures.link.0, c.greet.ensures.link.1)

pub returns-in-Came-clause-wires : goal.returns-in-Came-clause-wires
returns-in-Came-clause-wires g c = wired-set c.args.self.now.ports.items c.args.id c.args.self.now.net.nodes c.index_mut.result.now c.greet.new.self c.args.self.now.ports_are c.requires.node c.index_mut.ensures.value (inl (c.greet.ensures.link.0, c.greet.ensures.link.1))

pub returns-then-not-is_loose-clause-links : goal.returns-then-not-is_loose-clause-links
returns-then-not-is_loose-clause-links g c = both-same (λ old new. (new.link ≡ old.link) × (new.is_stuck ≡ old.is_stuck)) (λ p. (refl, refl)) (slice_get c.args.self.now.ports.items c.args.id)

pub returns-then-not-is_loose-clause-wires : goal.returns-then-not-is_loose-clause-wires
returns-then-not-is_loose-clause-wires g c = (wired-same c.args.self.now.ports.items c.args.id, λ w other. refl)

pub returns-in_default-clause-links : goal.returns-in_default-clause-links
returns-in_default-clause-links g c = both-same (λ old new. (new.link ≡ old.link) × (new.is_stuck ≡ old.is_stuck)) (λ p. (refl, refl)) (slice_get c.args.self.now.ports.items c.args.id)

pub returns-in_default-clause-wires : goal.returns-in_default-clause-wires
returns-in_default-clause-wires g c = (wired-same c.args.self.now.ports.items c.args.id, λ w other. refl)

-- a port with neither a pipe nor a greeting is not linked
loose-linked : {P : Type 0} (port : NodePort P) → true ≡ (is_none port.link.pipe && is_none port.greeting) → is_linked (Some port) ≡ true → ⊥
loose-linked port loose linked = grind arith

pub returns-in-Came-clause-linked : goal.returns-in-Came-clause-linked
returns-in-Came-clause-linked g c linked =
    let items = c.args.self.now.ports.items in
    let nodes = c.args.self.now.ports_are.0 in
    let below = c.requires.node in
    let within : c.args.id < length items = omega (arith, nodes, below) in
    let at-id = slice_get_read items (length items) c.args.id c.index.result.now refl within c.index.ensures in
    absurd (loose-linked c.index.result.now c.if-not-is_loose.ensures (rw at-id at linked))
