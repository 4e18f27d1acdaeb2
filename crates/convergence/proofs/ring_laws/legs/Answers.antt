use Rattle.convergence.proofs.TourLegs.{each-tour}
use Rattle.convergence.proofs.ring_laws.legs.Goals as goal

pub returns : goal.returns
returns c =
    let near = c.round_a_node.ensures in
    let view = c.true_view.ensures in
    let whole = c.the_tour.ensures in
    each-tour c.joined.ensures.nodes near.source_of_next near.next_on view.are view.ascend whole.round whole.each_edge whole.none_twice whole.length
