use Rattle.std.proofs.Common.{◌≡◌, ◌<◌, ◌≤◌, ap, length, take, refl, slice_index_or, slice_set, subst, sym, Contains, arith}
use Rattle.std.proofs.lemmas.List.{take_all}
use Rattle.std.proofs.lemmas.Option.{slice_get_read}
use Rattle.node_core.specs.View.{site_in}
use Rattle.pace.specs.Plans.{no_sight}
use Rattle.pace.specs.declared.port.PortSight.{PortSight}
use Rattle.node_loop.specs.Speaking.{sight_at}
use Rattle.node_loop.proofs.Sights.{AreSeen, seen-as, seen-next, seen-start, take-next}
use Rattle.node_loop.proofs.sight.sights.Goals as goal

pub loop-w-init : goal.loop-w-init
loop-w-init g c = seen-start (sight_at c.args.node.now c.args.ports.now) no_sight _ refl

pub payload_for-requires : goal.payload_for-requires
payload_for-requires g c = (c.neighbours-w-items.ensures.within c.loop-w.w-index c.loop-w-test.true).1

pub frame_for-requires : goal.frame_for-requires
frame_for-requires g c = (c.neighbours-w-items.ensures.within c.loop-w.w-index c.loop-w-test.true).1

pub bounds-sights-w : goal.bounds-sights-w
bounds-sights-w g c = (c.neighbours-w-items.ensures.within c.loop-w.w-index c.loop-w-test.true).0

pub bounds-ports-w : goal.bounds-ports-w
bounds-ports-w g c =
    let nodes : (site_in c.args.node.now).ranges.nodes ≡ c.args.net.now.nodes = ap (λ s. s.ranges.nodes) c.requires.site in
    let below = (c.neighbours-w-items.ensures.within c.loop-w.w-index c.loop-w-test.true).1 in
    let long = c.requires.ports.0 in
    omega (arith, nodes, below, long)

pub offset_bounds-ports-w : goal.offset_bounds-ports-w
offset_bounds-ports-w g c = let within = bounds-ports-w g c in omega (arith, within)

pub loop-w-preserved : goal.loop-w-preserved
loop-w-preserved g c =
    let node = c.args.node.now in
    let ports = c.args.ports.now in
    let ws = (site_in node).neighbours in
    let items = c.neighbours-w-items.result.now in
    let i = c.loop-w.w-index in
    let w = slice_index_or items i 0 in
    let there : i < length ws = subst (λ xs. i < length xs) c.neighbours-w-items.ensures.neighbours c.loop-w-test.true in
    let near = c.neighbours-w-items.ensures.within i c.loop-w-test.true in
    let nodes : (site_in node).ranges.nodes ≡ c.args.net.now.nodes = ap (λ s. s.ranges.nodes) c.requires.site in
    let within : w < length ports = let below = near.1 in let long = c.requires.ports.0 in omega (arith, nodes, below, long) in
    let sight : PortSight = record { takes_frames = c.takes_frames.result; frame = c.frame_for.result; present = c.payload_for.result } in
    subst (λ vs. AreSeen (sight_at node ports) no_sight vs (slice_set c.loop-w.sights w sight)) (sym (take-next items ws c.neighbours-w-items.ensures.neighbours i there))
    (seen-next (sight_at node ports) no_sight (take i ws) c.loop-w.sights w sight near.0
    (seen-as node ports w c.index-ports-w.result _ _ _ (slice_get_read ports (length ports) w c.index-ports-w.result refl within c.index-ports-w.is)
    c.takes_frames.ensures c.frame_for.ensures.frame c.payload_for.ensures.payload)
    c.loop-w.invariant)

pub returns : goal.returns
returns g c w below has =
    c.loop-w.invariant.seen w (subst (λ vs. Contains vs w) (sym (take_all c.loop-w.w-index (site_in c.args.node.now).neighbours (subst (λ xs. length xs ≤ c.loop-w.w-index) c.neighbours-w-items.ensures.neighbours c.loop-w-test.false))) has)
