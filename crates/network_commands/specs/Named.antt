-- The text of a network that its kind names.
use Rattle.std.specs.Prelude.{ℕ, List}
use Rattle.topology.specs.Network.{Network}
use Rattle.topology.specs.Accept.{IsAccepted, IsRefused}
use Rattle.topology.specs.ReadNet.{IsReadFrom}
use Rattle.network_file.specs.declared.fault.NetworkFault.TheVariants.{Refused}
use Rattle.network_kinds.specs.Made.{values_for}
use Rattle.command_faults.specs.declared.fault.Fault.{Fault}
use Rattle.command_faults.specs.declared.fault.Fault.TheVariants.{Network as NetworkRefused, Memory}
use Rattle.network_commands.specs.declared.network.WantedNetwork.{WantedNetwork}

-- the text reads as the network with these numbers and exactly the edges of the kind
abbrev pub IsTextOf : WantedNetwork → List ℕ → Type 0
IsTextOf w text =
    (net : Network) × IsAccepted (values_for w.kind w.nodes w.root w.capacity w.lease) net × IsReadFrom text net

-- there is no such network, and the fault is the first one of its numbers and edges; or memory ran out
abbrev pub IsUnnamed : WantedNetwork → Fault → Type 0
IsUnnamed w (NetworkRefused (Refused fault)) = IsRefused (values_for w.kind w.nodes w.root w.capacity w.lease) fault
IsUnnamed w Memory = Unit {0}
IsUnnamed w fault = ⊥
