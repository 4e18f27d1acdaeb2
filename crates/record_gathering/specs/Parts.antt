-- What a part of a node's state says of the state of the node.
use Rattle.std.specs.Prelude.{ℕ, ◌<◌, if◌then◌else◌}
use Rattle.topology.specs.Network.{are_joined}
use Rattle.flight_records.specs.declared.entry.StatePart.{StatePart}
use Rattle.flight_records.specs.declared.entry.StatePart.TheVariants as part
use Rattle.configuration.specs.data_link.Port.{PortState}
use Rattle.configuration.specs.run_model.World.{World}
use Rattle.record_gathering.specs.declared.parts.PortNoted.{PortNoted}
use Rattle.record_gathering.specs.declared.parts.PartNoted.{PartNoted}
use Rattle.record_gathering.specs.declared.parts.PartNoted.TheVariants as said

-- the port's own state
abbrev pub state_noted : PortNoted → PortState
state_noted p = record { seq = p.seq; last = p.last; staged = p.staged; copy = p.copy }

-- what a part of v's state says; a port to a node that is no neighbour says nothing
abbrev pub part_noted : World → ℕ → StatePart → PartNoted
part_noted w v (part.Start network node) = said.Nothing
part_noted w v (part.Own distance parent) = said.Own distance parent
part_noted w v (part.Port neighbour seq last staged copy value) =
    if are_joined w.net.edges v neighbour
    then said.Port (record { neighbour = neighbour; seq = seq; last = last; staged = staged; copy = copy; value = value })
    else said.Nothing
part_noted w v (part.Waits ticket) = said.Nothing
part_noted w v (part.Loan lent left served) = said.Loan (record { lent = lent; left = left; served = served })
part_noted w v part.Whole = said.Nothing

-- a port is one to a node of the network
abbrev pub IsPortOfNode : ℕ → PartNoted → Type 0
IsPortOfNode nodes (said.Port port) = port.neighbour < nodes
IsPortOfNode nodes _ = Unit {0}
