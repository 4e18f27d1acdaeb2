-- What a node starts with are registers.
use Rattle.std.proofs.Common.{◌≡◌, ℕ, ◌<◌, ap, List, get_or, inl, inr, arith, rules, refl, replicate}
use Rattle.std.proofs.Math.Path.{fun_ext}
use Rattle.std.specs.List.{range_with_len}
use Rattle.std.proofs.lemmas.Bool.{cases_lt}
use Rattle.std.proofs.lemmas.List.{length-replicate, get_or-replicate, get_or_past}
use Rattle.std.proofs.lemmas.List.Elements.{All-replicate, All-filter}
use Rattle.std.proofs.lemmas.List.FromFn.{length-range_with_len, get_or-range_with_len}
use Rattle.data_link.specs.topology.Network.{Network, IsAcceptedNetwork, are_joined, neighbours_of, ring_of}
use Rattle.data_link.specs.topology.Laws.{NeighboursAscend}
use Rattle.data_link.specs.topology.declared.frame.Ranges.{Ranges}
use Rattle.data_link.specs.topology.Ranges.{ranges_of}
use Rattle.data_link.specs.Port.{PortView, default_port}
use Rattle.registers.specs.Registers.{RegistersView, IsPortOf, IsRegisters, port_of, value_of}

abbrev pub default_view : Network → PortView
default_view net = record { ranges = ranges_of net; state = default_port (ranges_of net) }

-- the registers of node v before it knows anything
abbrev pub start_of : Network → ℕ → RegistersView
start_of net v = record {
  ranges = ranges_of net;
  neighbours = neighbours_of net v;
  ports = replicate net.nodes (default_view net);
  values = replicate net.nodes 0;
}

-- a list of one value reads as that value, past its end too
same_read : {X : Type 0} (n i : ℕ) (x : X) → get_or (replicate n x) i x ≡ x
same_read n i x = elim (cases_lt i n) [
  | inl within ↦ get_or-replicate n i x x within
  | inr past ↦ get_or_past (replicate n x) i x (omega (arith, length-replicate n x, past))
]

-- as they are put together
pub is_start : (net : Network) (v : ℕ) (ranges : Ranges) (neighbours : List ℕ) (ports : List PortView) (values : List ℕ)
    → ranges ≡ ranges_of net → neighbours ≡ neighbours_of net v → ports ≡ replicate net.nodes (default_view net) → values ≡ replicate net.nodes 0
    → record { ranges = ranges; neighbours = neighbours; ports = ports; values = values } ≡ start_of net v
is_start net v ranges neighbours ports values r n p x = cc

pub port_of-start : (net : Network) (v : ℕ) → port_of (start_of net v) ≡ (λ w. default_port (ranges_of net))
port_of-start net v = fun_ext (λ w. ap (λ p. p.state) (same_read net.nodes w (default_view net)))

pub value_of-start : (net : Network) (v : ℕ) → value_of (start_of net v) ≡ (λ w. 0)
value_of-start net v = fun_ext (λ w. same_read net.nodes w 0)

pub default_fits : (net : Network) → IsAcceptedNetwork net → IsPortOf (ranges_of net) (default_view net)
default_fits net ok = record { same = refl; fits = search (rules, arith) }

pub registers-start : NeighboursAscend → (net : Network) (v : ℕ) → IsAcceptedNetwork net → IsRegisters (start_of net v)
registers-start ascend net v ok = record {
  most = ok.limits.most;
  some_values = omega arith;
  ports = length-replicate net.nodes (default_view net);
  values = length-replicate net.nodes 0;
  ports_fit = All-replicate (IsPortOf (ranges_of net)) net.nodes (default_view net) (default_fits net ok);
  values_fit = All-replicate (λ x. x < ring_of net) net.nodes 0 (omega arith);
  neighbours_in = All-filter (are_joined net.edges v) (λ w. w < net.nodes) (range_with_len 0 net.nodes) (λ k d h.
      let long = length-range_with_len 0 net.nodes in
      omega (arith, get_or-range_with_len 0 net.nodes k d (omega arith)));
  ascending = ascend net v;
  other_ports = λ w far. ap (λ f. f w) (port_of-start net v);
  other_values = λ w far. ap (λ f. f w) (value_of-start net v);
}

pub registers-made : NeighboursAscend → (net : Network) (v : ℕ) (r : RegistersView) → IsAcceptedNetwork net → r ≡ start_of net v → IsRegisters r
registers-made ascend net v r ok is = rw is (registers-start ascend net v ok)
