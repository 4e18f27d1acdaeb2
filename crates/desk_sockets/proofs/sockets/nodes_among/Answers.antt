use Rattle.desk_sockets.proofs.Finding.{finds, found-none, found-one}
use Rattle.desk_sockets.proofs.sockets.nodes_among.Goals as goal

pub loop-entry-preserved-in-Continue-1 : goal.loop-entry-preserved-in-Continue-1
loop-entry-preserved-in-Continue-1 g c =
    let found = c.in-Some-node_at in
    found-one c.loop-entry.yielded c.loop-entry.nodes.items c.push.new.self.items c.in-Some.entry found.node c.loop-entry.invariant
    found.ensures.named found.ensures.unnamed c.in_ok-push.ensures.items

pub loop-entry-preserved : goal.loop-entry-preserved
loop-entry-preserved g c =
    found-none c.loop-entry.yielded c.loop-entry.nodes.items c.in-Some.entry c.loop-entry.invariant c.in_default.ensures.named

pub returns : goal.returns
returns g c =
    let begun = c.into_iter-entry-iterator in
    let loop = c.loop-entry in
    let sort = c.sort_unstable in
    finds g.I.Iterator.next_gives c.args.entries begun.result loop.entry-iterator c.next.new.self loop.yielded loop.nodes.items
    sort.new.self.items begun.ensures.into_iter_gives loop.yielded_by c.in-None.ensures.steps loop.invariant sort.ensures.permutation
    sort.ensures.sorted
