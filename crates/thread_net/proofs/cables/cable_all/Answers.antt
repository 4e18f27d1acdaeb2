use Rattle.std.proofs.Common.{rules, arith, refl, ◌≡◌, ◌∙◌, ◌<◌, ◌+◌, ℕ, true, false, IsTrue, ap, sym, subst}
use Rattle.std.specs.List.{Contains}
use Rattle.topology.specs.Network.{are_joined, neighbours_in, neighbours_of, IsAcceptedNetwork}
use Rattle.thread_net.specs.Cables.{rows_of}
use Rattle.thread_net.proofs.Cabling.{IsLaid, reach, begins, skips, ends, laid-more, laid-as, laid-nothing, laid-all}
use Rattle.thread_net.proofs.cables.cable_all.Goals as goal
use Rattle.thread_net.proofs.cables.cable_all.Goals.{then-are_joined+in_ok-join, else-are_joined}

pub loop-one-init : goal.loop-one-init
loop-one-init g c = (refl, refl, λ w over none. laid-nothing w (rows_of c.args.runners.now.items) c.args.links.now.net.nodes none)

pub loop-other-init : goal.loop-other-init
loop-other-init g c =
    let net = c.args.links.now.net in
    let u = c.loop-one.one in
    let itself = c.joined.ensures.not_to_itself net u (subst IsAcceptedNetwork c.net.ensures.net c.nodes-nodes.ensures.network) in (
      c.loop-one.invariant.0,
      c.loop-one.invariant.1,
      λ w over none. laid-as w _ (reach net.nodes u u) (reach net.nodes u (u + 1)) (λ x xn. rw over.0 (begins (are_joined net.edges) net.nodes u itself x)) (c.loop-one.invariant.2 w over none),
    )

pub loop-other-preserved : goal.loop-other-preserved
loop-other-preserved g c =
    let u = c.loop-one.one in
    let v = c.loop-other.other in
    let net = c.args.links.now.net in
    let order : u < v = search (rules, arith) in
    let back = c.joined.ensures.back net.edges v u in
    let it = c.loop-other.invariant in
    elim c.if-are_joined.branch [
      | then-are_joined+in_ok-join w ↦
          let joined : are_joined net.edges u v ≡ true = search rules in
          rw w.runners-is (
            w.join.ensures.all ∙ it.0,
            w.join.ensures.seats ∙ it.1,
            λ z over none. laid-more z _ c.args.links.now _ net.nodes u v over order (rw over.0 back) (rw over.0 joined) w.in_ok-join.ensures.cabled (it.2 z over none),
          )
      | else-are_joined w ↦
          let isnt : are_joined net.edges u v ≡ false = search rules in
          rw w.runners-is (it.0, it.1, λ z over none. laid-as z _ (reach net.nodes u v) (reach net.nodes u (v + 1)) (λ x xn. rw over.0 (skips (are_joined net.edges) net.nodes u v order back isnt x)) (it.2 z over none))
    ]

pub loop-one-preserved : goal.loop-one-preserved
loop-one-preserved g c =
    let u = c.loop-one.one in
    let net = c.args.links.now.net in
    let last : c.loop-other.other ≡ net.nodes = search (rules, arith) in
    let it = c.loop-other.invariant in
    (it.0, it.1, λ w over none. laid-as w _ (reach net.nodes u net.nodes) (reach net.nodes (u + 1) (u + 1)) (λ x xn. ap (λ b. neighbours_in b w.net.edges x) (ends net.nodes u x (rw over.0 at xn))) (rw last at (it.2 w over none)))

pub returns-clause-furnished : goal.returns-clause-furnished
returns-clause-furnished g c = λ w over none.
    let net = c.args.links.now.net in
    let accepted : IsAcceptedNetwork net = subst IsAcceptedNetwork c.net.ensures.net c.nodes-nodes.ensures.network in
    let last : c.loop-one.one ≡ net.nodes = search (rules, arith) in
    let has : (i j : ℕ) → IsTrue (are_joined net.edges i j) → (i < net.nodes) × Contains (neighbours_of net i) j =
    λ i j joined. let at = c.joined.ensures.nodes net i j accepted joined in (at.0, (c.neighbours.ensures.joined net i j).1 (at.1, joined)) in
    laid-all w _ (rw over.0 has) (subst (λ k. IsLaid w (reach k k k) (rows_of c.loop-one.runners.items)) (sym (ap (λ n. n.nodes) over.0)) (rw last at (c.loop-one.invariant.2 w over none)))
