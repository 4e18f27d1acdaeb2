use Rattle.std.proofs.Common.{◌≡◌, ◌∙◌, ap, length}
use Rattle.topology.proofs.LaidOut.{layout_of}
use Rattle.topology.proofs.layout.Layout.write.Given as given
use Rattle.topology.proofs.layout.Layout.write.Goals.{After-deref_mut-2}
use Rattle.topology.proofs.layout.Layout.write.Goals as goal

-- there is a distance for each node
long : (g : given.Over) (c : After-deref_mut-2 g) → length c.deref_mut-2.result.now ≡ c.args.nodes
long g c = ap length c.deref_mut-2.ensures.value ∙ c.requires.rows.all_distances

pub write_all_neighbours-requires-clause-all : goal.write_all_neighbours-requires-clause-all
write_all_neighbours-requires-clause-all g c = ap length c.deref_mut.ensures.value ∙ c.requires.rows.all_rows

pub write_all_neighbours-requires-clause-room : goal.write_all_neighbours-requires-clause-room
write_all_neighbours-requires-clause-room g c = rw c.deref_mut.ensures.value c.requires.rows.room

pub write_distances-requires-clause-edges_in : goal.write_distances-requires-clause-edges_in
write_distances-requires-clause-edges_in g c = rw (long g c) c.requires.edges_in

pub write_distances-requires-clause-root_in : goal.write_distances-requires-clause-root_in
write_distances-requires-clause-root_in g c = rw (long g c) c.requires.root_in

pub write_distances-requires-clause-few : goal.write_distances-requires-clause-few
write_distances-requires-clause-few g c = rw (long g c) c.requires.few

pub returns : goal.returns
returns g c =
    layout_of c.args.nodes c.args.edges.now c.args.root c.args.self.now c.write_all_neighbours.new.rows c.write_distances.new.distances c.requires.rows c.write_all_neighbours.ensures.neighbours
    c.write_all_neighbours.ensures.room (c.write_distances.ensures.length ∙ long g (goal.at.returns g c).After-deref_mut-2) c.write_distances.ensures.searched
