use Rattle.std.proofs.Common.{rules, refl, ◌≡◌, false}
use Rattle.registers.specs.Registers.{port_of}
use Rattle.euler_ring.specs.Cycle.{is_tree_neighbour}
use Rattle.node_core.proofs.OnTree.{not_on}
use Rattle.node_core.proofs.machines.ring_towards.Goals as goal

pub returns-then-not-is_on_tree-clause-value : goal.returns-then-not-is_on_tree-clause-value
returns-then-not-is_on_tree-clause-value g c =
    let fails : is_tree_neighbour c.args.parent c.args.id (λ u. (port_of c.args.registers.now u).copy.parent) c.args.w ≡ false = search rules in
    rw (not_on (is_tree_neighbour c.args.parent c.args.id (λ u. (port_of c.args.registers.now u).copy.parent)) c.args.registers.now.neighbours c.args.w fails) refl
