use Rattle.node_connections.proofs.Loose.{loose-set}
use Rattle.node_connections.proofs.Hearing.{wired-set}
use Rattle.node_loop.proofs.Hearing.{counted-set}
use Rattle.node_loop.proofs.run.NodeRun.go_on_greeting.Goals as goal

pub invariant_of-self-clause-ports_are : goal.invariant_of-self-clause-ports_are
invariant_of-self-clause-ports_are g c = counted-set c.args.self.now.ports.items c.args.id c.go_on_greeting.new.self c.args.self.now.net.nodes c.args.self.now.ports_are

pub invariant_of-self-clause-strangers : goal.invariant_of-self-clause-strangers
invariant_of-self-clause-strangers g c = loose-set c.args.self.now.node.registers.neighbours c.args.self.now.ports.items c.args.id c.go_on_greeting.new.self c.requires.neighbour c.args.self.now.strangers

pub invariant_of-self-else-go_on_greeting-clause-ports_are : goal.invariant_of-self-else-go_on_greeting-clause-ports_are
invariant_of-self-else-go_on_greeting-clause-ports_are g c = counted-set c.args.self.now.ports.items c.args.id c.go_on_greeting.new.self c.args.self.now.net.nodes c.args.self.now.ports_are

pub invariant_of-self-else-go_on_greeting-clause-strangers : goal.invariant_of-self-else-go_on_greeting-clause-strangers
invariant_of-self-else-go_on_greeting-clause-strangers g c = loose-set c.args.self.now.node.registers.neighbours c.args.self.now.ports.items c.args.id c.go_on_greeting.new.self c.requires.neighbour c.args.self.now.strangers

pub returns-then-go_on_greeting-clause-wires : goal.returns-then-go_on_greeting-clause-wires
returns-then-go_on_greeting-clause-wires g c = wired-set c.args.self.now.ports.items c.args.id c.args.self.now.net.nodes c.index_mut.result.now c.go_on_greeting.new.self c.args.self.now.ports_are c.requires.node c.index_mut.ensures.value c.go_on_greeting.ensures.wires

pub returns-else-go_on_greeting-clause-wires : goal.returns-else-go_on_greeting-clause-wires
returns-else-go_on_greeting-clause-wires g c = wired-set c.args.self.now.ports.items c.args.id c.args.self.now.net.nodes c.index_mut.result.now c.go_on_greeting.new.self c.args.self.now.ports_are c.requires.node c.index_mut.ensures.value c.go_on_greeting.ensures.wires
