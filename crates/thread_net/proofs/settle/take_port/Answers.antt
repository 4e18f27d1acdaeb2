use Rattle.std.proofs.Common.{rules, arith, [], ◌≡◌, ◌<◌, length}
use Rattle.std.proofs.lemmas.Grind.{common_steps}
use Rattle.thread_net.proofs.Maps.{read, row-set}
use Rattle.thread_net.proofs.settle.take_port.Goals as goal

pub returns-clause-others : goal.returns-clause-others
returns-clause-others g c = λ i j other.
    let tables = c.args.rows.now.items in
    let same : c.from.result ≡ c.args.node = search rules in
    let within : c.from.result < length tables = search (rules, arith) in
    let was = read (λ t. t.items) tables c.from.result c.index_mut.result.now [] within c.index_mut.ensures.value in
    let now = row-set (λ t. t.items) tables c.from.result c.take_from.new.ports within i in
    let stay = c.take_from.ensures.others j in
    grind (arith, common_steps, same, was, now, stay, other)
