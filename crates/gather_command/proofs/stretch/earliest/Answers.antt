use Rattle.std.proofs.Common.{◌∙◌, ap}
use Rattle.record_gathering.specs.flight_records.declared.entry.Entry.{Entry}
use Rattle.std.specs.Prelude.{Option}
use Rattle.gather_command.specs.Stretch.{earlier_of}
use Rattle.gather_command.proofs.Stretches.{earliest-step}
use Rattle.gather_command.proofs.stretch.earliest.Goals as goal

pub loop-node-preserved : goal.loop-node-preserved
loop-node-preserved g c =
    earliest-step c.args.nodes.now c.loop-node.node-index c.node-item.result c.loop-node.least c.earlier_of-least.result
    c.node-item.is c.loop-node-test.true
    (c.earlier_of-least.ensures ∙ ap (λ (o : Option Entry). earlier_of c.loop-node.least o) c.head.ensures)
    c.loop-node.invariant
