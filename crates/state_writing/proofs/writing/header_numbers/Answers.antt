use Rattle.std.proofs.Common.{rules, arith, ◌<◌, length}
use Rattle.node_core.specs.View.{site_in}
use Rattle.state_writing.proofs.Neighbours.{fewer_than_nodes}
use Rattle.state_writing.proofs.writing.header_numbers.Goals as goal

pub overflow_cast-result : goal.overflow_cast-result
overflow_cast-result g c =
    let accepted = c.nodes.ensures.network in
    let few = fewer_than_nodes c.joined.ensures.not_to_itself c.args.net.now (site_in c.args.node.now).id accepted c.requires in
    let below : length c.neighbours.result.now < 65536 = rw (c.neighbours.ensures, c.id-2.ensures) (omega (arith, few, accepted.limits.most)) in
    search rules

pub returns-clause-few : goal.returns-clause-few
returns-clause-few g c =
    let accepted = c.nodes.ensures.network in
    omega (arith, fewer_than_nodes c.joined.ensures.not_to_itself c.args.net.now (site_in c.args.node.now).id accepted c.requires, accepted.limits.most)
