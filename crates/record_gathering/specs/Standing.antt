-- When a node is as a part of its state was noted, and which parts are in range.
use Rattle.std.specs.Prelude.{◌≡◌, ◌≢◌, ℕ, ◌&&◌, nat_lt, nat_le, IsTrue, List}
use Rattle.topology.specs.Network.{are_joined}
use Rattle.topology.specs.Ranges.{ranges_of, parent_fits}
use Rattle.flight_records.specs.declared.entry.StatePart.{StatePart}
use Rattle.flight_records.specs.declared.entry.StatePart.TheVariants as part
use Rattle.configuration.specs.node_core.State.{LocalState}
use Rattle.configuration.specs.node_core.lock_desk.Desk.{desk_fits}
use Rattle.configuration.specs.data_link.Port.{port_fits}
use Rattle.configuration.specs.run_model.World.{World}

-- the node is as the part says; `queue` is what was noted to wait
abbrev pub StandsAs : List ℕ → LocalState → StatePart → Type 0
StandsAs queue s (part.Start network node) = Unit {0}
StandsAs queue s (part.Own distance parent) = (s.distance ≡ distance) × (s.parent ≡ parent)
StandsAs queue s (part.Port neighbour seq last staged copy value) =
    (s.port neighbour ≡ record { seq = seq; last = last; staged = staged; copy = copy }) × (s.value neighbour ≡ value)
StandsAs queue s (part.Waits ticket) = Unit {0}
StandsAs queue s (part.Loan lent left served) =
    s.desk ≡ record { waiting = queue; lent = lent; left = left; served = served }
StandsAs queue s part.Whole = Unit {0}

-- a node v of the world may be as the part says
abbrev pub IsPartInRange : World → List ℕ → ℕ → StatePart → Type 0
IsPartInRange w queue v (part.Start network node) = Unit {0}
IsPartInRange w queue v (part.Own distance parent) =
    IsTrue (nat_le distance w.net.nodes && parent_fits w.net.nodes parent)
IsPartInRange w queue v (part.Port neighbour seq last staged copy value) =
    IsTrue (are_joined w.net.edges v neighbour)
    × IsTrue (port_fits (ranges_of w.net) (record { seq = seq; last = last; staged = staged; copy = copy }))
    × IsTrue (nat_lt value (ranges_of w.net).ring)
IsPartInRange w queue v (part.Waits ticket) = Unit {0}
IsPartInRange w queue v (part.Loan lent left served) =
    IsTrue (desk_fits w.net.lease (record { waiting = queue; lent = lent; left = left; served = served }))
IsPartInRange w queue v part.Whole = Unit {0}

-- a part for a port is one to a neighbour of v
abbrev pub IsOfNeighbour : World → ℕ → StatePart → Type 0
IsOfNeighbour w v (part.Start network node) = Unit {0}
IsOfNeighbour w v (part.Own distance parent) = Unit {0}
IsOfNeighbour w v (part.Port neighbour seq last staged copy value) = IsTrue (are_joined w.net.edges v neighbour)
IsOfNeighbour w v (part.Waits ticket) = Unit {0}
IsOfNeighbour w v (part.Loan lent left served) = Unit {0}
IsOfNeighbour w v part.Whole = Unit {0}

-- a node is the same in all that a part does not speak of
abbrev pub IsSameBeside : StatePart → LocalState → LocalState → Type 0
IsSameBeside (part.Start network node) s t = s ≡ t
IsSameBeside (part.Own distance parent) s t =
    ((u : ℕ) → s.port u ≡ t.port u) × ((u : ℕ) → s.value u ≡ t.value u) × (s.desk ≡ t.desk)
IsSameBeside (part.Port neighbour seq last staged copy value) s t =
    (s.distance ≡ t.distance) × (s.parent ≡ t.parent) × (s.desk ≡ t.desk)
    × ((u : ℕ) → u ≢ neighbour → (s.port u ≡ t.port u) × (s.value u ≡ t.value u))
IsSameBeside (part.Waits ticket) s t = s ≡ t
IsSameBeside (part.Loan lent left served) s t =
    (s.distance ≡ t.distance) × (s.parent ≡ t.parent) × ((u : ℕ) → s.port u ≡ t.port u)
    × ((u : ℕ) → s.value u ≡ t.value u)
IsSameBeside part.Whole s t = s ≡ t
