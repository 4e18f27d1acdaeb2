use Rattle.std.proofs.Common.{rules, arith, ap, sym, ◌≡◌, ◌∙◌, ◌∷◌, ◌++◌, length, drop, take, take_all}
use Rattle.std.proofs.Math.Seq.{drop-append_seam}
use Rattle.std.proofs.lemmas.List.{length-map}
use Rattle.rtrb.specs.Ring.{sent, received, known_items}
use Rattle.node_runner.specs.weaving.Matched.{items}
use Rattle.thread_net.specs.Cables.{left_on}
use Rattle.thread_net.proofs.Settling.{drain-step, item-fits, rest-is}
use Rattle.thread_net.proofs.settle.drain.Goals as goal

pub loop-item-preserved : goal.loop-item-preserved
loop-item-preserved g c =
    let net = c.args.links.now.net in
    let all = items (known_items c.slots_beside-left.new.self) in
    let k = c.loop-item._item in
    let x = c.pop_known.result in
    let it = c.loop-item.invariant in
    let fewer = ap length c.pop_known.ensures.received.1 in
    let next : x.item ∷ items (known_items c.pop_known.new.self) ≡ drop k all = ap items (sym c.pop_known.ensures.received.1) ∙ it.3 in (
      c.put.ensures.net ∙ it.0,
      c.put.ensures.spares ∙ it.1,
      omega arith,
      rest-is net all _ k x.item next,
      λ room.
          let fits = item-fits net all _ k x.item next room in
          let same : c.fitting-item.result ≡ x.item = search rules in
          drain-step net all _ k x.item next room _ _ _ c.args.from c.args.to _ (ap (λ n. n.capacity) it.0) (it.4 room) (rw same at c.put.ensures.put),
    )

pub returns-clause-flushed : goal.returns-clause-flushed
returns-clause-flushed g c =
    let first : received c.args.incoming.now.frames ++ known_items c.slots_beside-left.new.self ≡ sent c.args.outgoing.now.frames = search rules in
    let second : received c.args.outgoing.now.places ++ known_items c.slots_beside-places.new.self ≡ sent c.args.incoming.now.places = search rules in
    ((known_items c.slots_beside-left.new.self, first), (known_items c.slots_beside-places.new.self, second))

pub returns-clause-left : goal.returns-clause-left
returns-clause-left g c = λ room.
    let known = known_items c.slots_beside-left.new.self in
    let came = received c.args.incoming.now.frames in
    let first : came ++ known ≡ sent c.args.outgoing.now.frames = search rules in
    let is : left_on c.args.outgoing.now c.args.incoming.now ≡ items known = ap items (ap (drop (length came)) (sym first) ∙ drop-append_seam came known) in
    let long = length-map known (λ s. s.item) in
    let whole : take c.loop-item._item (items known) ≡ items known = take_all c.loop-item._item (items known) (search (rules, arith)) in
    rw is (rw whole at (c.loop-item.invariant.4 (rw is at room)))
