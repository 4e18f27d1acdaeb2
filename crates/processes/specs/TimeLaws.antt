-- The laws of processes in time: windows of instants are sweeps, so recovery and service have a
-- bound in any unit of the instants.
use Rattle.std.specs.Prelude.{◌≡◌, ℕ, ◌+◌, ◌-◌, ◌*◌, ◌<◌, ◌≤◌, IsTrue, IsFalse, List, ◌++◌, map}
use Rattle.std.specs.List.{AllByRecursion}
use Rattle.topology.specs.Eccentricity.{sharp_of}
use Rattle.run_model.specs.World.{World, IsWorldInRange}
use Rattle.run_model.specs.Run.{run}
use Rattle.run_model.specs.Sweep.{Sweeps}
use Rattle.run_model.specs.Headline.{IsServing}
use Rattle.run_model.specs.declared.event.Event.{Event}
use Rattle.convergence.specs.Service.{IsAtPlace, gives_up, is_lent_once}
use Rattle.processes.specs.Accounts.{Timed}
use Rattle.processes.specs.Links.{Act}
use Rattle.processes.specs.Marks.{Mark, event_of, mark_moment, IsOrderOf}
use Rattle.processes.specs.Together.{AreProcesses}
use Rattle.processes.specs.Timing.{MovesWithin}

-- all of these happen before the instant
abbrev pub AreBefore : ℕ → List Mark → Type 0
AreBefore instant ms = AllByRecursion (λ m. mark_moment m < 2 * instant) ms

-- all of these happen at the instant or later
abbrev pub AreSince : ℕ → List Mark → Type 0
AreSince instant ms = AllByRecursion (λ m. 2 * instant ≤ mark_moment m) ms

-- the world after these
abbrev pub world_after : World → List Mark → World
world_after w ms = run w (map event_of ms)

-- What k windows hold, one after the other from the instant s on, is k sweeps.
abbrev pub WindowsAreSweeps : Type 0
WindowsAreSweeps =
    (w last : World) (account : ℕ → List Timed) (history : ℕ → ℕ → List Act) (events : List Event)
    (o : IsOrderOf account history events) (window start until k s : ℕ)
    (before stretch after : List Mark) → IsWorldInRange w → AreProcesses w account history last
    → MovesWithin window start until w account history
    → o.marks ≡ before ++ (stretch ++ after) → start ≤ s → s + k * window ≤ until
    → AreBefore s before → AreSince s stretch → AreSince (s + k * window) after
    → Sweeps (world_after w before) k (map event_of stretch)

-- Once 16(n - 1) + 4e + 15 windows are over the network serves, at that instant and at every later
-- moment, from every world in range.
abbrev pub ServesInTime : Type 0
ServesInTime =
    (w last : World) (account : ℕ → List Timed) (history : ℕ → ℕ → List Act) (events : List Event)
    (o : IsOrderOf account history events) (window start until : ℕ)
    (before after : List Mark) → IsWorldInRange w → AreProcesses w account history last
    → MovesWithin window start until w account history
    → o.marks ≡ before ++ after → start + sharp_of w.net * window ≤ until
    → AreSince (start + sharp_of w.net * window) after
    → IsServing (world_after w before)

-- From any such instant s on: a ticket at place i of a desk's list, which does not leave while it
-- waits, is lent the lock within 8(n - 1)(i + 2) windows.
abbrev pub LendsInTime : Type 0
LendsInTime =
    (w last : World) (account : ℕ → List Timed) (history : ℕ → ℕ → List Act) (events : List Event)
    (o : IsOrderOf account history events) (window start until s v t i : ℕ)
    (before stretch after : List Mark) → IsWorldInRange w → AreProcesses w account history last
    → MovesWithin window start until w account history
    → o.marks ≡ before ++ (stretch ++ after) → start + sharp_of w.net * window ≤ s
    → s + 8 * (w.net.nodes - 1) * (i + 2) * window ≤ until
    → AreBefore s before → AreSince s stretch
    → AreSince (s + 8 * (w.net.nodes - 1) * (i + 2) * window) after
    → v < w.net.nodes → IsAtPlace t i ((world_after w before).node v).desk.waiting
    → IsFalse (gives_up (world_after w before) (map event_of stretch) v t)
    → IsTrue (is_lent_once (world_after w before) (map event_of stretch) v t)
