use Rattle.std.proofs.Common.{◌≡◌, ◌≤◌, ◌⊎◌, inl, inr, sym, arith, false}
use Rattle.topology.specs.Layout.{network_of}
use Rattle.topology.specs.Network.{Network, are_joined}
use Rattle.topology.proofs.Changed.{place_none}
use Rattle.topology.proofs.Accepting.{no_edge, both_nodes, bad_edge}
use Rattle.topology.proofs.net.Net.place_to_part.Goals.{then-u-self-via-then-u-self, then-u-self-via-else-u-self+then-v-self}
use Rattle.topology.proofs.net.Net.place_to_part.Goals as goal

pub returns-in-None-clause-refused : goal.returns-in-None-clause-refused
returns-in-None-clause-refused g c =
    let net : Network = network_of c.self.inside in
    let none : are_joined net.edges c.args.u c.args.v ≡ false = place_none net.edges c.args.u c.args.v (rw c.deref.ensures.value at c.in-None.ensures) in
    rw (← c.self.view_is) (no_edge net c.args.u c.args.v (omega arith) (omega arith) none)

pub returns-then-u-self-clause-network : goal.returns-then-u-self-clause-network
returns-then-u-self-clause-network g c = rw (← c.self.view_is) c.self.invariant.0.network

pub returns-then-u-self-clause-refused : goal.returns-then-u-self-clause-refused
returns-then-u-self-clause-refused g c =
    let net : Network = network_of c.self.inside in
    let out : (net.nodes ≤ c.args.u) ⊎ (net.nodes ≤ c.args.v) = elim c.then-u-self.branch [
      | then-u-self-via-then-u-self w ↦ inl w.if-u-self.true
      | then-u-self-via-else-u-self+then-v-self w ↦ inr w.if-v-self.true
    ] in
    rw (← c.self.view_is) (bad_edge net c.args.u c.args.v out)

pub returns-in-Some-clause-found : goal.returns-in-Some-clause-found
returns-in-Some-clause-found g c = rw (← c.self.view_is, ← c.deref.ensures.value) (sym c.in-Some.ensures)

pub returns-in-Some-clause-nodes : goal.returns-in-Some-clause-nodes
returns-in-Some-clause-nodes g c =
    let net : Network = network_of c.self.inside in
    rw (← c.self.view_is) (both_nodes net c.args.u c.args.v (omega arith) (omega arith))

pub returns-in-Some-clause-network : goal.returns-in-Some-clause-network
returns-in-Some-clause-network g c = rw (← c.self.view_is) c.self.invariant.0.network

pub returns-in-None-clause-network : goal.returns-in-None-clause-network
returns-in-None-clause-network g c = rw (← c.self.view_is) c.self.invariant.0.network
