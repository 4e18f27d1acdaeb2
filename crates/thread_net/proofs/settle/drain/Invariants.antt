use Rattle.std.proofs.Common.{◌≡◌, ◌+◌, length, drop, take}
use Rattle.rtrb.specs.Ring.{known_items}
use Rattle.judge.specs.run_model.World.{at_pair}
use Rattle.judge.specs.configuration.LinksView.{under_way}
use Rattle.node_runner.specs.weaving.Matched.{items}
use Rattle.thread_net.specs.Cables.{IsRoomFor}
use Rattle.thread_net.proofs.settle.drain.Given as goal

abbrev pub invariant-loop-item : goal.invariant-loop-item
invariant-loop-item g l =
    let known = known_items l.initial.incoming.frames in
    (l.links.net ≡ l.fn.links.net)
    × (l.links.spares ≡ l.fn.links.spares)
    × (length (known_items l.incoming.frames) + l._item ≡ length known)
    × (items (known_items l.incoming.frames) ≡ drop l._item (items known))
    × (IsRoomFor l.fn.links.net (items known) → under_way l.links ≡ at_pair (under_way l.fn.links) l.from l.to (take l._item (items known)))
