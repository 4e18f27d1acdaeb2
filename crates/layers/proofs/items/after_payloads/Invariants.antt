use Rattle.std.proofs.Common.{◌≡◌, ◌≤◌, ◌↔◌, length, drop}
use Rattle.std.specs.List.{AllByRecursion}
use Rattle.topology.specs.declared.frame.Payload.{Payload}
use Rattle.configuration.specs.ConfigurationView.{world_of}
use Rattle.configuration.specs.data_link.Edge.{CarriesItsPayload}
use Rattle.configuration.specs.data_link.Port.{PortState}
use Rattle.layers.specs.PayloadReading.{Admits}
use Rattle.layers.proofs.items.after_payloads.Given as goal

-- the items below `index` are read
abbrev pub invariant-loop-index : goal.invariant-loop-index
invariant-loop-index g l =
    (l.index ≤ length ((world_of l.configuration).link l.from l.to))
    × (l.reading.seq ≡ l.fn.start.seq)
    × (l.reading.staged ≡ l.fn.start.staged)
    × ((port : PortState) (other : Payload) → port.seq ≡ l.fn.start.seq → port.staged ≡ l.fn.start.staged
    → (Admits l.reading other × AllByRecursion (CarriesItsPayload port other) (drop l.index ((world_of l.configuration).link l.from l.to)))
    ↔ (Admits l.fn.start other × AllByRecursion (CarriesItsPayload port other) ((world_of l.configuration).link l.from l.to)))
