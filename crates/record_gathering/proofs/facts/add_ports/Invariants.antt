use Rattle.std.proofs.Common.{◌≡◌, ◌++◌, map, take}
use Rattle.configuration.specs.node_core.View.{site_in, state_of}
use Rattle.node_follower.specs.Parts.{port_part}
use Rattle.record_gathering.specs.declared.facts.Fact.TheVariants.{State}
use Rattle.record_gathering.proofs.facts.add_ports.Given as goal

abbrev pub invariant-loop-neighbour : goal.invariant-loop-neighbour
invariant-loop-neighbour g l =
    l.facts.items
    ≡ l.fn.facts.items
    ++ map (λ u. State l.id (port_part (state_of l.node) u)) (take l.neighbour-index (site_in l.node).neighbours)
