use Rattle.std.proofs.Common.{sym, refl}
use Rattle.topology.specs.Layout.{IsLayoutOf}
use Rattle.topology.specs.Network.{Network, network_by}
use Rattle.topology.proofs.LaidOut.{not_connected, laid_out}
use Rattle.topology.proofs.net.Net.lay_out.Goals as goal

pub returns-then-has_unreached-clause-err : goal.returns-then-has_unreached-clause-err
returns-then-has_unreached-clause-err g c =
    let net : Network = network_by c.args.nodes c.args.root c.args.capacity c.args.lease c.args.edges.items in
    let is : IsLayoutOf net.nodes net.edges net.root c.in_ok-layout.layout = rw c.as_slice.ensures.value at c.in_ok-layout.ensures in
    not_connected net c.in_ok-layout.layout.distances.items is.all_distances is.searched (sym c.if-has_unreached.ensures)

pub invariant_of-result : goal.invariant_of-result
invariant_of-result g c =
    let net : Network = network_by c.args.nodes c.args.root c.args.capacity c.args.lease c.args.edges.items in
    let is : IsLayoutOf net.nodes net.edges net.root c.in_ok-layout.layout = rw c.as_slice.ensures.value at c.in_ok-layout.ensures in
    (laid_out net c.in_ok-layout.layout c.requires.limits is (sym c.if-has_unreached.ensures), record { for_edges = c.requires.room; for_neighbours = is.room })

pub returns-clause-ok : goal.returns-clause-ok
returns-clause-ok g c =
    let net : Network = network_by c.args.nodes c.args.root c.args.capacity c.args.lease c.args.edges.items in
    let is : IsLayoutOf net.nodes net.edges net.root c.in_ok-layout.layout = rw c.as_slice.ensures.value at c.in_ok-layout.ensures in
    (refl, (laid_out net c.in_ok-layout.layout c.requires.limits is (sym c.if-has_unreached.ensures)).network)
