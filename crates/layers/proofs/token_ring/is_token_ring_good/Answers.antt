use Rattle.std.proofs.Common.{◌≡◌, ◌∙◌, ◌↔◌, ap, sym, refl, subst, ℕ, ◌+◌, ◌-◌, ◌*◌, ◌<◌, suc, length, drop, arith}
use Rattle.std.specs.List.{flat_map}
use Rattle.std.proofs.lemmas.Grind.{common_steps}
use Rattle.topology.specs.Network.{IsAcceptedNetwork, ring_of}
use Rattle.euler_ring.specs.Tour.{tour}
use Rattle.euler_ring.specs.Laws.{stop_after}
use Rattle.k_state.specs.Ring.{IsGood, head_of}
use Rattle.configuration.specs.ConfigurationView.{world_of}
use Rattle.convergence.specs.Ring.{leg_values, legs_to, first_here, token_ring, IsTokenRingGood}
use Rattle.layers.specs.RingReading.{MayFollow}
use Rattle.layers.specs.Stops.{stop_of, IsOnTree, GoesRound, first_stop}
use Rattle.layers.proofs.Tours.{head-there, begins-here, stop-passed, ring-goes_on}
use Rattle.layers.proofs.token_ring.is_token_ring_good.Goals as goal

pub loop-init : goal.loop-init
loop-init g c =
    let w = world_of c.args.configuration.now in
    let net = c.net-net.ensures in
    let accepted : IsAcceptedNetwork w.net = subst (λ n. IsAcceptedNetwork n) net c.nodes-nodes.ensures.network in
    let round = subst (λ n. GoesRound n (stop_of c.first_stop-stop.result) (first_stop n) (tour n)) net c.first_stop-stop.ensures.round in
    let count : length (tour w.net) ≡ 2 * (w.net.nodes - 1) = c.the_tour.ensures.length w.net accepted in
    let some : 0 < length (tour w.net) = omega (arith, count, accepted.limits.two) in
    let head : head_of (token_ring w) ≡ c.value-head.result =
    head-there w w.net (stop_of c.first_stop-stop.result) (first_stop w.net) (tour w.net) (first_here (tour w.net)) some round
    ∙ sym (c.value-head.ensures ∙ ap (λ s. s.value c.first_stop-stop.result.from) c.node.ensures.state) in
    let modulus : c.ring.result ≡ ring_of w.net = c.ring.ensures ∙ ap ring_of net in (
      subst (λ n. IsOnTree n (stop_of c.first_stop-stop.result)) net c.first_stop-stop.ensures.there,
      c.new-reading.ensures.modulus ∙ modulus,
      round,
      subst (λ q. MayFollow c.new-reading.result (token_ring w) ↔ IsGood q (token_ring w)) modulus (c.new-reading.ensures.follows (token_ring w) head),
    )

pub loop-preserved : goal.loop-preserved
loop-preserved g c =
    let w = world_of c.args.configuration.now in
    let net = c.net-net.ensures in
    let accepted : IsAcceptedNetwork w.net = subst (λ n. IsAcceptedNetwork n) net c.nodes-nodes.ensures.network in
    let i = c.loop.counter in
    let stop = stop_of c.loop.stop in
    let next = stop_of c.next_stop-next.result in
    let all : length (tour w.net) ≡ 2 * (w.net.nodes - 1) = c.the_tour.ensures.length w.net accepted in
    let within : i < length (tour w.net) = grind (arith, common_steps) in
    let along = c.loop.invariant.2 in
    let is : next ≡ stop_after w.net stop = subst (λ n. next ≡ stop_after n stop) net c.next_stop-next.ensures.next in
    let more : i + 1 ≡ suc i = omega arith in
    let passed = stop-passed w.net stop (first_stop w.net) (tour w.net) i within along in (
      subst (λ n. IsOnTree n next) net c.next_stop-next.ensures.there,
      c.after_leg-reading.ensures.modulus ∙ c.loop.invariant.1,
      subst (λ k. GoesRound w.net next (first_stop w.net) (drop k (tour w.net))) (sym more)
          (subst (λ s. GoesRound w.net s (first_stop w.net) (drop (suc i) (tour w.net))) (sym is) passed),
      subst (λ k. MayFollow c.after_leg-reading.result (flat_map (leg_values w) (legs_to (first_here (tour w.net)) (drop k (tour w.net)))) ↔ IsTokenRingGood w) (sym more)
          (ring-goes_on w (first_stop w.net) stop next (tour w.net) i (first_here (tour w.net)) c.loop.reading c.after_leg-reading.result (IsTokenRingGood w)
          (begins-here (tour w.net)) within along is c.after_leg-reading.ensures.follows c.loop.invariant.3),
    )
