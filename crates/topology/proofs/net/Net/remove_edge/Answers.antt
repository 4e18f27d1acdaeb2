use Rattle.std.proofs.Common.{◌≡◌, ◌∙◌, ◌<◌, refl, sym, ap, arith, length}
use Rattle.std.proofs.lemmas.List.Edits.{length-remove}
use Rattle.topology.specs.Layout.{network_of, IsLayoutOf}
use Rattle.topology.specs.Network.{Network}
use Rattle.topology.specs.Change.{without_place}
use Rattle.topology.proofs.LaidOut.{laid_out, laid_out_again, all_connected, not_connected, rows_for, rows_again}
use Rattle.topology.proofs.Changed.{put_back_value}
use Rattle.topology.proofs.Accepting.{removed_limits}
use Rattle.topology.proofs.net.Net.remove_edge.Goals as goal

pub write-requires-clause-rows : goal.write-requires-clause-rows
write-requires-clause-rows g c = rows_for (network_of c.self.inside) c.self.inside.edges c.self.inside.layout c.self.invariant.0 c.self.invariant.1

pub write-requires-clause-edges_in : goal.write-requires-clause-edges_in
write-requires-clause-edges_in g c =
    let net : Network = network_of c.self.inside in
    let within : c.args.place < length net.edges = rw (← c.self.view_is) at c.requires in
    rw (c.deref.ensures.value, c.remove-edge.ensures.items) (removed_limits net c.args.place within c.self.invariant.0.network.limits).edges_in

pub write-requires-then-has_unreached-clause-rows : goal.write-requires-then-has_unreached-clause-rows
write-requires-then-has_unreached-clause-rows g c = rows_again _ _ _ _ c.write.ensures

pub write-requires-then-has_unreached-clause-edges_in : goal.write-requires-then-has_unreached-clause-edges_in
write-requires-then-has_unreached-clause-edges_in g c =
    let net : Network = network_of c.self.inside in
    let within : c.args.place < length net.edges = rw (← c.self.view_is) at c.requires in
    let same : c.put_edge.new.list.items ≡ net.edges = rw (c.put_edge.ensures.edges, c.remove-edge.ensures.items) (put_back_value net.edges c.args.place c.remove-edge.result within c.remove-edge.ensures.value) in
    rw (c.deref-then-has_unreached.ensures.value, same) c.self.invariant.0.network.limits.edges_in

pub invariant_of-self : goal.invariant_of-self
invariant_of-self g c =
    let net : Network = network_of c.self.inside in
    let within : c.args.place < length net.edges = rw (← c.self.view_is) at c.requires in
    let same : c.put_edge.new.list.items ≡ net.edges = rw (c.put_edge.ensures.edges, c.remove-edge.ensures.items) (put_back_value net.edges c.args.place c.remove-edge.result within c.remove-edge.ensures.value) in
    let is : IsLayoutOf net.nodes net.edges net.root c.write-then-has_unreached.new.self = rw (c.deref-then-has_unreached.ensures.value, same) at c.write-then-has_unreached.ensures in (
      rw same (laid_out_again net c.write-then-has_unreached.new.self c.self.invariant.0.network is),
      record { for_edges = omega (arith, c.put_edge.ensures.room, c.remove-edge.ensures.capacity, c.self.invariant.1.for_edges); for_neighbours = is.room },
    )

pub returns-then-has_unreached-clause-apart : goal.returns-then-has_unreached-clause-apart
returns-then-has_unreached-clause-apart g c =
    let new : Network = without_place (network_of c.self.inside) c.args.place in
    let is : IsLayoutOf new.nodes new.edges new.root c.write.new.self = rw (c.deref.ensures.value, c.remove-edge.ensures.items) at c.write.ensures in
    rw (← c.self.view_is) (not_connected new c.write.new.self.distances.items is.all_distances is.searched (sym c.if-has_unreached.ensures))

pub invariant_of-self-else-has_unreached : goal.invariant_of-self-else-has_unreached
invariant_of-self-else-has_unreached g c =
    let net : Network = network_of c.self.inside in
    let within : c.args.place < length net.edges = rw (← c.self.view_is) at c.requires in
    let new : Network = without_place net c.args.place in
    let is : IsLayoutOf new.nodes new.edges new.root c.write.new.self = rw (c.deref.ensures.value, c.remove-edge.ensures.items) at c.write.ensures in (
      rw c.remove-edge.ensures.items (laid_out new c.write.new.self (removed_limits net c.args.place within c.self.invariant.0.network.limits) is (sym c.if-has_unreached.ensures)),
      record { for_edges = omega (arith, c.remove-edge.ensures.capacity, c.self.invariant.1.for_edges); for_neighbours = is.room },
    )

pub returns-clause-connected : goal.returns-clause-connected
returns-clause-connected g c =
    let new : Network = without_place (network_of c.self.inside) c.args.place in
    let is : IsLayoutOf new.nodes new.edges new.root c.write.new.self = rw (c.deref.ensures.value, c.remove-edge.ensures.items) at c.write.ensures in
    rw (← c.self.view_is) (all_connected new c.write.new.self.distances.items is.all_distances is.searched (sym c.if-has_unreached.ensures))

pub write-requires-clause-root_in : goal.write-requires-clause-root_in
write-requires-clause-root_in g c = c.self.invariant.0.network.limits.root_in

pub write-requires-clause-few : goal.write-requires-clause-few
write-requires-clause-few g c = c.self.invariant.0.network.limits.most

pub write-requires-then-has_unreached-clause-root_in : goal.write-requires-then-has_unreached-clause-root_in
write-requires-then-has_unreached-clause-root_in g c = c.self.invariant.0.network.limits.root_in

pub write-requires-then-has_unreached-clause-few : goal.write-requires-then-has_unreached-clause-few
write-requires-then-has_unreached-clause-few g c = c.self.invariant.0.network.limits.most

pub remove-edge-requires : goal.remove-edge-requires
remove-edge-requires g c =
    let within : c.args.place < length c.self.inside.edges.items = rw (← c.self.view_is) at c.requires in
    omega (arith, c.self.inside.edges.ok.0)

pub put_edge-requires-clause-place : goal.put_edge-requires-clause-place
put_edge-requires-clause-place g c =
    let within : c.args.place < length c.self.inside.edges.items = rw (← c.self.view_is) at c.requires in
    omega (arith, length-remove c.self.inside.edges.items c.args.place within, ap length c.remove-edge.ensures.items)

pub put_edge-requires-clause-room : goal.put_edge-requires-clause-room
put_edge-requires-clause-room g c =
    let within : c.args.place < length c.self.inside.edges.items = rw (← c.self.view_is) at c.requires in
    omega (
      arith,
      length-remove c.self.inside.edges.items c.args.place within,
      ap length c.remove-edge.ensures.items,
      c.remove-edge.ensures.capacity,
      c.self.invariant.0.network.limits.few_edges,
      c.self.invariant.1.for_edges,
    )

pub returns-then-has_unreached-clause-unchanged : goal.returns-then-has_unreached-clause-unchanged
returns-then-has_unreached-clause-unchanged g c =
    let net : Network = network_of c.self.inside in
    let within : c.args.place < length net.edges = rw (← c.self.view_is) at c.requires in
    let same : c.put_edge.new.list.items ≡ net.edges = rw (c.put_edge.ensures.edges, c.remove-edge.ensures.items) (put_back_value net.edges c.args.place c.remove-edge.result within c.remove-edge.ensures.value) in
    ap (λ es. record net { edges = es }) same ∙ c.self.view_is

pub returns-clause-removed : goal.returns-clause-removed
returns-clause-removed g c = rw (← c.self.view_is, c.remove-edge.ensures.items) refl
