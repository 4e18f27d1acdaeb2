use Rattle.std.proofs.Common.{ℕ, ◌∙◌, ◌++◌, ◌∷◌, [], ap}
use Rattle.configuration.specs.node_core.View.{state_of}
use Rattle.node_follower.specs.Parts.{port_part}
use Rattle.flight_records.specs.declared.entry.StatePart.{StatePart}
use Rattle.record_gathering.specs.declared.facts.Fact.{Fact}
use Rattle.record_gathering.specs.declared.facts.Fact.TheVariants.{State}
use Rattle.record_gathering.proofs.FactsJoin.{map-more}
use Rattle.record_gathering.proofs.facts.add_ports.Goals as goal

pub loop-neighbour-preserved : goal.loop-neighbour-preserved
loop-neighbour-preserved g c =
    let port : ℕ → Fact = λ u. State c.args.id (port_part (state_of c.args.node.now) u) in
    map-more port _ _ _ _ _ c.neighbours-neighbour-items.ensures c.loop-neighbour.neighbour-index _ c.loop-neighbour-test.true
    c.loop-neighbour.invariant
    (c.in_ok-add.ensures ∙ ap (λ (p : StatePart). c.loop-neighbour.facts.items ++ State c.args.id p ∷ []) c.port_part.ensures)
