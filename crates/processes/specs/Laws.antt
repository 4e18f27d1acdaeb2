-- The laws of processes: what they did is a run; so the headline and the service hold of them.
use Rattle.std.specs.Prelude.{◌≡◌, ℕ, ◌+◌, ◌-◌, ◌*◌, ◌<◌, IsTrue, IsFalse, List, ◌++◌}
use Rattle.topology.specs.Network.{bound_of}
use Rattle.topology.specs.Eccentricity.{sharp_of}
use Rattle.run_model.specs.World.{World, IsWorldInRange}
use Rattle.run_model.specs.Run.{run}
use Rattle.run_model.specs.Sweep.{Sweeps}
use Rattle.run_model.specs.Headline.{IsServing}
use Rattle.run_model.specs.declared.event.Event.{Event}
use Rattle.convergence.specs.Service.{IsAtPlace, gives_up, is_lent_once}
use Rattle.processes.specs.Accounts.{Timed}
use Rattle.processes.specs.Links.{Act}
use Rattle.processes.specs.Marks.{IsOrderOf}
use Rattle.processes.specs.Together.{AreProcesses, Wires, AreProcessesOverBytes, history_on}
use Rattle.processes.specs.Through.{GoesThrough}

-- once the run holds that many sweeps the network serves, at that moment and at every later one
abbrev pub ServesAfter : ℕ → World → List Event → Type 0
ServesAfter sweeps w events =
    (before after : List Event) → events ≡ before ++ after → Sweeps w sweeps before
    → IsServing (run w before)

-- From every moment before which the run holds that many sweeps: a ticket at place i of a desk's
-- list, which does not leave while it waits, is lent the lock within 8(n - 1)(i + 2) sweeps.
abbrev pub LendsAfter : ℕ → World → List Event → Type 0
LendsAfter sweeps w events =
    (before after : List Event) (v t i : ℕ) → events ≡ before ++ after → Sweeps w sweeps before
    → v < w.net.nodes → IsAtPlace t i ((run w before).node v).desk.waiting
    → IsFalse (gives_up (run w before) after v t)
    → Sweeps (run w before) (8 * (w.net.nodes - 1) * (i + 2)) after
    → IsTrue (is_lent_once (run w before) after v t)

-- what processes did has an order by instants
abbrev pub ProcessesHaveOrder : Type 0
ProcessesHaveOrder =
    (w last : World) (account : ℕ → List Timed) (history : ℕ → ℕ → List Act) → IsWorldInRange w
    → AreProcesses w account history last
    → (events : List Event) × IsOrderOf account history events

-- and each such order is a run from the one world to the other, in which every event goes through
abbrev pub OrdersAreRuns : Type 0
OrdersAreRuns =
    (w last : World) (account : ℕ → List Timed) (history : ℕ → ℕ → List Act) (events : List Event)
    → IsWorldInRange w → AreProcesses w account history last → IsOrderOf account history events
    → (run w events ≡ last) × GoesThrough w events

-- What is promised of a list of events that leads from the one world to the other. It is a run that
-- goes through. Once it holds R sweeps the network serves, and goes on serving; R is 16(n - 1) + 4e
-- + 15, with e the greatest distance from the root, or the greater bound of the network. And from
-- then on a ticket that waits, and does not leave while it waits, is lent the lock once the run
-- holds as many more sweeps as the ticket's place asks for.
pub record KeepsPromise (w last : World) (events : List Event) : Type 0 where
  pub leads : run w events ≡ last
  pub through : GoesThrough w events
  pub serves : ServesAfter (sharp_of w.net) w events
  pub serves_by_bound : ServesAfter (bound_of w.net) w events
  pub lends : LendsAfter (sharp_of w.net) w events

-- The headline and the service of processes: from every world in range, whatever they did, it has
-- an order by instants, and each such order keeps the promise.
abbrev pub ProcessesKeepPromise : Type 0
ProcessesKeepPromise =
    (w last : World) (account : ℕ → List Timed) (history : ℕ → ℕ → List Act) → IsWorldInRange w
    → AreProcesses w account history last
    → ((some : List Event) × IsOrderOf account history some)
    × ((events : List Event) → IsOrderOf account history events → KeepsPromise w last events)

-- processes whose links are connections of bytes are such processes,
abbrev pub BytesAreProcesses : Type 0
BytesAreProcesses =
    (w last : World) (account : ℕ → List Timed) (wires : Wires) → IsWorldInRange w
    → AreProcessesOverBytes w account wires last
    → AreProcesses w account (history_on w wires) last

-- so the headline and the service hold of them
abbrev pub BytesKeepPromise : Type 0
BytesKeepPromise =
    (w last : World) (account : ℕ → List Timed) (wires : Wires) → IsWorldInRange w
    → AreProcessesOverBytes w account wires last
    → ((some : List Event) × IsOrderOf account (history_on w wires) some)
    × ((events : List Event) → IsOrderOf account (history_on w wires) events
    → KeepsPromise w last events)
