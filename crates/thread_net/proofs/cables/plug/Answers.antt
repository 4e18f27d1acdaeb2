use Rattle.std.proofs.Common.{rules, arith, [], ◌≡◌, ◌<◌, length}
use Rattle.std.proofs.lemmas.Grind.{common_steps}
use Rattle.node_runner.specs.declared.runner.Runner.{Runner}
use Rattle.thread_net.proofs.Maps.{read, row-set}
use Rattle.thread_net.proofs.cables.plug.Goals as goal

pub returns-clause-rows : goal.returns-clause-rows
returns-clause-rows g c = λ x.
    let rs = c.args.runners.now.items in
    let r = c.index_mut.result.now in
    let after : Runner _ = record r { ports = c.push.new.self } in
    let same : c.from.result ≡ c.args.node = search rules in
    let within : c.from.result < length rs = search (rules, arith) in
    let was = read (λ r. r.ports.items) rs c.from.result r [] within c.index_mut.ensures.value in
    let now = row-set (λ r. r.ports.items) rs c.from.result after within x in
    let more = c.in_ok-push.ensures.items in
    grind (arith, common_steps, same, was, now, more)
