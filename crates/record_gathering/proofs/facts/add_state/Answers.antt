use Rattle.configuration.specs.node_core.View.{site_in, state_of}
use Rattle.record_gathering.proofs.FactsJoin.{on-ok, state-listed}
use Rattle.record_gathering.proofs.facts.add_state.Goals as goal

pub returns : goal.returns
returns g c =
    let node = c.args.node.now in
    on-ok c.add-4.result _ _
    (state-listed c.args.network (site_in node) (state_of node) c.id-id.result c.start_part-start.result c.own_part-own.result
    c.loan_part-loan.result c.args.facts.now.items c.add.new.facts.items c.add-2.new.facts.items c.add_ports.new.facts.items
    c.add_queue.new.facts.items c.add-3.new.facts.items c.add-4.new.facts.items c.id-id.ensures c.start_part-start.ensures
    c.own_part-own.ensures c.loan_part-loan.ensures c.in_ok-add.ensures c.in_ok-add-2.ensures c.in_ok-add_ports.ensures
    c.in_ok-add_queue.ensures c.in_ok-add-3.ensures)
    c.add-4.ensures
