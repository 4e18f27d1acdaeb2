use Rattle.std.proofs.Common.{◌≡◌, ◌∙◌, ap, sym, subst, true, Some, IsTrue}
use Rattle.euler_ring.specs.Cycle.{special, is_on}
use Rattle.euler_ring.specs.Laws.{true_neighbours}
use Rattle.layers.proofs.Tours.{begins-round, some-special, unwrapped, on-lowest}
use Rattle.layers.proofs.tour.first_stop.Goals as goal

pub unwrap-from-requires : goal.unwrap-from-requires
unwrap-from-requires g c =
    let round = c.the_tour.ensures.round c.args.net.now c.root-root.ensures.network in
    let is : c.special.result ≡ Some round.child =
    c.special.ensures ∙ ap (special true) (c.neighbours_on_tree.ensures.tree ∙ ap (true_neighbours c.args.net.now) c.root-root.ensures.root) ∙ round.special in
    some-special c.special.result round.child is

pub returns-clause-round : goal.returns-clause-round
returns-clause-round g c =
    let net = c.args.net.now in
    let round = c.the_tour.ensures.round net c.root-root.ensures.network in
    let is : c.special.result ≡ Some round.child =
    c.special.ensures ∙ ap (special true) (c.neighbours_on_tree.ensures.tree ∙ ap (true_neighbours net) c.root-root.ensures.root) ∙ round.special in
    begins-round net round (c.unwrap-from.result, c.root-root.result)
    (unwrapped c.special.result c.unwrap-from.result round.child c.root-root.result net.root is c.unwrap-from.ensures c.root-root.ensures.root)

pub returns-clause-there : goal.returns-clause-there
returns-clause-there g c =
    let net = c.args.net.now in
    let on : IsTrue (is_on c.neighbours_on_tree.result c.unwrap-from.result) =
    on-lowest c.neighbours_on_tree.result c.unwrap-from.result (sym c.special.ensures ∙ c.unwrap-from.ensures) in (
      c.neighbours_on_tree.ensures.nodes c.unwrap-from.result on,
      rw c.root-root.ensures.root c.root-root.ensures.network.limits.root_in,
      subst (λ ts. IsTrue (is_on ts c.unwrap-from.result)) c.neighbours_on_tree.ensures.tree on,
    )
