use Rattle.euler_ring.proofs.Tours.{goes_round, each_edge, no_stop_twice, two_stops_each, comes_to_each}
use Rattle.euler_ring.proofs.laws.the_tour.Goals as goal

pub returns-clause-round : goal.returns-clause-round
returns-clause-round c = λ net ok. goes_round net (c.tree.ensures.known net ok) (c.joined.ensures.back net.edges) (λ v w. c.joined.ensures.nodes net v w ok) ok.limits.two ok.limits.root_in

pub returns-clause-each_edge : goal.returns-clause-each_edge
returns-clause-each_edge c = λ net a b ok. each_edge net (c.tree.ensures.known net ok) (c.joined.ensures.back net.edges) (λ v w. c.joined.ensures.nodes net v w ok) ok.limits.two ok.limits.root_in a b

pub returns-clause-none_twice : goal.returns-clause-none_twice
returns-clause-none_twice c = λ net ok. no_stop_twice net (c.tree.ensures.known net ok) (c.joined.ensures.back net.edges) (λ v w. c.joined.ensures.nodes net v w ok) ok.limits.two ok.limits.root_in

pub returns-clause-length : goal.returns-clause-length
returns-clause-length c = λ net ok. two_stops_each net (c.tree.ensures.known net ok) (c.joined.ensures.back net.edges) (λ v w. c.joined.ensures.nodes net v w ok) ok.limits.two ok.limits.root_in

pub returns-clause-each_node : goal.returns-clause-each_node
returns-clause-each_node c = λ net v ok. comes_to_each net (c.tree.ensures.known net ok) (c.joined.ensures.back net.edges) (λ v w. c.joined.ensures.nodes net v w ok) ok.limits.two ok.limits.root_in v
