use Rattle.std.proofs.Common.{◌≡◌, ◌∙◌, sym, ◌+◌, ◌<◌, suc, length, arith}
use Rattle.std.proofs.lemmas.Grind.{common_steps}
use Rattle.layers.specs.euler_ring.Tour.{tour}
use Rattle.layers.specs.Stops.{stop_of, first_stop}
use Rattle.run_recording.specs.Visits.{with_new}
use Rattle.run_recording.proofs.Visits.{passes, none_left}
use Rattle.run_recording.proofs.tour.first_visits.Goals as goal

pub loop-preserved : goal.loop-preserved
loop-preserved c =
    let net = c.args.net.now in
    let all = c.the_tour.ensures.length net c.nodes-nodes.ensures.network in
    let within : c.loop.counter < length (tour net) = grind (arith, common_steps) in
    let passed = passes net c.loop.order.items (stop_of c.loop.stop) (first_stop net) (tour net) c.loop.counter within c.loop.invariant.1 in
    let next : c.loop.counter + 1 ≡ suc c.loop.counter = omega arith in
    let order_is : c.put_new.new.order.items ≡ with_new c.loop.order.items c.loop.stop.here = c.in_ok-put_new.ensures in
    (c.next_stop-stop.ensures.there, rw (c.next_stop-stop.ensures.next, next) passed.1, rw (order_is, next) (sym passed.0 ∙ c.loop.invariant.2))

pub returns : goal.returns
returns c =
    let net = c.args.net.now in
    let all = c.the_tour.ensures.length net c.nodes-nodes.ensures.network in
    let end : length (tour net) ≡ c.loop.counter = grind (arith, common_steps) in
    sym (none_left c.loop.order.items (tour net) c.loop.counter end) ∙ c.loop.invariant.2
