-- When values make a network, and by which fault they are invalid.
use Rattle.std.specs.Prelude.{◌≡◌, Some, None}
use Rattle.topology.specs.Network.{Network, IsAcceptedNetwork, IsConnected}
use Rattle.topology.specs.Refusal.{Values, values_of, value_fault}
use Rattle.topology.specs.declared.fault.NetFault.{NetFault}
use Rattle.topology.specs.declared.fault.NetFault.TheVariants.{Apart, Memory}

-- the values are those of the network, and nothing is wrong with it
pub record IsAccepted (v : Values) (net : Network) : Type 0 where
  pub same : values_of net ≡ v
  pub no_fault : value_fault v ≡ None
  pub network : IsAcceptedNetwork net

-- the fault is the first one that the values have, or memory ran out
abbrev pub IsRefused : Values → NetFault → Type 0
IsRefused v Memory = Unit {0}
IsRefused v Apart =
    (value_fault v ≡ None) × ((net : Network) × (values_of net ≡ v) × ¬ IsConnected net)
IsRefused v fault = value_fault v ≡ Some fault

-- the edges do not hold the nodes together, or memory ran out
abbrev pub IsNotJoined : Network → NetFault → Type 0
IsNotJoined net Memory = Unit {0}
IsNotJoined net Apart = ¬ IsConnected net
IsNotJoined net fault = ⊥
