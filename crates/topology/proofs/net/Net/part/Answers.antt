use Rattle.std.proofs.Common.{sym, ◌∙◌}
use Rattle.topology.proofs.Changed.{IsPlaceOf, place_found, parted_is}
use Rattle.topology.proofs.Accepting.{may_go, may_not_go}
use Rattle.topology.proofs.net.Net.part.Given as given
use Rattle.topology.proofs.net.Net.part.Goals.{In_ok-place}
use Rattle.topology.proofs.net.Net.part.Goals as goal

-- where the edge is
place : (g : given.Over) (c : In_ok-place g) → IsPlaceOf c.args.self.now.edges c.args.u c.args.v c.in_ok-place.place
place g c = place_found c.args.self.now.edges c.args.u c.args.v c.in_ok-place.place c.place_to_part.ensures.network.limits.no_double (sym c.in_ok-place.ensures.found)

pub returns-then-remove_edge-clause-allowed : goal.returns-then-remove_edge-clause-allowed
returns-then-remove_edge-clause-allowed g c =
    may_go c.args.self.now c.args.u c.args.v c.in_ok-place.place c.place_to_part.ensures.network c.in_ok-place.ensures.nodes
    (place g (goal.at.returns-then-remove_edge-clause-allowed g c).In_ok-place) c.if-remove_edge.ensures.connected

pub returns-then-remove_edge-clause-parted : goal.returns-then-remove_edge-clause-parted
returns-then-remove_edge-clause-parted g c =
    c.if-remove_edge.ensures.removed ∙ parted_is c.args.self.now c.args.u c.args.v c.in_ok-place.place (place g (goal.at.returns-then-remove_edge-clause-parted g c).In_ok-place)

pub returns-else-remove_edge-clause-refused : goal.returns-else-remove_edge-clause-refused
returns-else-remove_edge-clause-refused g c =
    may_not_go c.args.self.now c.args.u c.args.v c.in_ok-place.place c.in_ok-place.ensures.nodes
    (place g (goal.at.returns-else-remove_edge-clause-refused g c).In_ok-place) c.if-remove_edge.ensures.apart
