use Rattle.std.proofs.Common.{◌≡◌, ◌∙◌, ap, arith, length, IsTrue}
use Rattle.topology.specs.Layout.{network_of, IsLayoutOf}
use Rattle.topology.specs.Network.{Network, IsAcceptedNetwork}
use Rattle.topology.specs.Change.{is_same_frame}
use Rattle.topology.proofs.Accepting.{same_net, same_with_edges}
use Rattle.topology.proofs.LaidOut.{laid_out_again, rows_for}
use Rattle.topology.proofs.net.Net.copy_from.Goals as goal

pub write-requires-clause-rows : goal.write-requires-clause-rows
write-requires-clause-rows g c = rows_for (network_of c.self.inside) c.self.inside.edges c.self.inside.layout c.self.invariant.0 c.self.invariant.1

pub invariant_of-self : goal.invariant_of-self
invariant_of-self g c =
    let net : Network = network_of c.self.inside in
    let new : Network = record net { edges = c.write_edges.new.list.items } in
    let frame : IsTrue (is_same_frame net (network_of c.other.inside)) = rw (← c.self.view_is, ← c.other.view_is) at c.requires in
    let edges : c.write_edges.new.list.items ≡ c.other.inside.edges.items = c.write_edges.ensures.edges ∙ c.deref.ensures.value in
    let ok : IsAcceptedNetwork new = same_with_edges net (network_of c.other.inside) c.write_edges.new.list.items frame edges c.other.invariant.0.network in
    let is : IsLayoutOf new.nodes new.edges new.root c.write.new.self = rw c.deref-2.ensures.value at c.write.ensures in
    (laid_out_again new c.write.new.self ok is, record { for_edges = omega (arith, c.write_edges.ensures.room, c.self.invariant.1.for_edges); for_neighbours = is.room })

pub write-requires-clause-root_in : goal.write-requires-clause-root_in
write-requires-clause-root_in g c = c.self.invariant.0.network.limits.root_in

pub write-requires-clause-few : goal.write-requires-clause-few
write-requires-clause-few g c = c.self.invariant.0.network.limits.most

pub write-requires-clause-edges_in : goal.write-requires-clause-edges_in
write-requires-clause-edges_in g c =
    let net : Network = network_of c.self.inside in
    let frame : IsTrue (is_same_frame net (network_of c.other.inside)) = rw (← c.self.view_is, ← c.other.view_is) at c.requires in
    let edges : c.write_edges.new.list.items ≡ c.other.inside.edges.items = c.write_edges.ensures.edges ∙ c.deref.ensures.value in
    rw c.deref-2.ensures.value (same_with_edges net (network_of c.other.inside) c.write_edges.new.list.items frame edges c.other.invariant.0.network).limits.edges_in

pub write_edges-requires : goal.write_edges-requires
write_edges-requires g c = omega (arith, ap length c.deref.ensures.value, c.other.invariant.0.network.limits.few_edges, c.self.invariant.1.for_edges)

pub returns : goal.returns
returns g c =
    let net : Network = network_of c.self.inside in
    let frame : IsTrue (is_same_frame net (network_of c.other.inside)) = rw (← c.self.view_is, ← c.other.view_is) at c.requires in
    let edges : c.write_edges.new.list.items ≡ c.other.inside.edges.items = c.write_edges.ensures.edges ∙ c.deref.ensures.value in
    rw (← c.other.view_is) (same_net net (network_of c.other.inside) c.write_edges.new.list.items frame edges)
