-- When a node ticks and how long it lends, in instants; and so how often it has a full tick.
use Rattle.std.specs.Prelude.{◌≡◌, ◌⊎◌, ℕ, zero, suc, ◌+◌, ◌<◌, ◌≤◌, IsTrue, IsFalse, List, [], ◌∷◌, ◌++◌, map}
use Rattle.std.specs.List.{AllByRecursion, Contains}
use Rattle.topology.specs.Network.{are_joined}
use Rattle.lock_desk.specs.Desk.{lends}
use Rattle.node_core.specs.Site.{Site, site_of}
use Rattle.node_core.specs.State.{LocalState}
use Rattle.recovery_times.specs.declared.premises.Premises.{Premises}
use Rattle.recovery_times.specs.Times.{full_of, window_of, recovery_of, lending_of}
use Rattle.run_model.specs.World.{World, IsWorldInRange}
use Rattle.run_model.specs.Headline.{IsServing}
use Rattle.run_model.specs.declared.event.Event.{Event}
use Rattle.convergence.specs.Service.{IsAtPlace, gives_up, is_lent_once}
use Rattle.node_core.specs.Deeds.{Ticks}
use Rattle.processes.specs.Accounts.{Timed, AreInTime}
use Rattle.processes.specs.Links.{Act}
use Rattle.processes.specs.Marks.{Mark, event_of, IsOrderOf}
use Rattle.processes.specs.Together.{AreProcesses}
use Rattle.processes.specs.TimeLaws.{AreBefore, AreSince, world_after}
use Rattle.processes.specs.Timing.{after_deed, at_first, passages, ticks_fully_in, MovesWithin}
use Rattle.processes.specs.Turns.{Turn, Pace, TurnsOften, GivesOften, Arrives}

-- what an account makes of a node
abbrev pub led : Site → List Timed → LocalState → LocalState
led site [] s = s
led site (t ∷ ts) s = led site ts (after_deed site t.deed s)

-- A point of an account at an instant: what was done until then, and what was done from then on. Of
-- the deeds at that very instant, any first part may count as done.
pub record Point (account : List Timed) (instant : ℕ) : Type 0 where
  pub before : List Timed
  pub after : List Timed
  pub whole : account ≡ before ++ after
  pub until : AllByRecursion (λ t. t.instant ≤ instant) before
  pub since : AllByRecursion (λ t. instant ≤ t.instant) after

-- the node ticks in the turn
abbrev pub TicksIn : Turn → List Timed → Type 0
TicksIn t account =
    (a : ℕ) × Contains account (record { instant = a; deed = Ticks }) × (t.begins ≤ a)
    × (a ≤ t.ends)

-- at some point of the turn the node lends
abbrev pub LendsIn : Site → Turn → List Timed → LocalState → Type 0
LendsIn site t account s =
    (a : ℕ) × (p : Point account a) × (t.begins ≤ a) × (a ≤ t.ends)
    × IsTrue (lends (led site p.before s).desk)

-- In each turn the node ticks, unless it lends: a tick may be left out only for the sake of a loan.
abbrev pub TicksInTurns : Site → ℕ → ℕ → List Turn → List Timed → LocalState → Type 0
TicksInTurns site start until turns account s =
    (t : Turn) → Contains turns t → start ≤ t.begins → t.ends < until
    → TicksIn t account ⊎ LendsIn site t account s

-- From the one instant to the other the node never lends.
abbrev pub NobodyBorrows : Site → ℕ → ℕ → List Timed → LocalState → Type 0
NobodyBorrows site start until account s =
    (a : ℕ) (p : Point account a) → start ≤ a → a < until
    → IsFalse (lends (led site p.before s).desk)

-- A loan that stands is over at most `loan` later, by what the node does until then.
abbrev pub LoansEndWithin : ℕ → Site → ℕ → ℕ → List Timed → LocalState → Type 0
LoansEndWithin loan site start until account s =
    (a : ℕ) (p : Point account a) → start ≤ a → a + loan < until
    → IsTrue (lends (led site p.before s).desk)
    → (done rest : List Timed) × (p.after ≡ done ++ rest)
    × AllByRecursion (λ t. t.instant ≤ a + loan) done
    × IsFalse (lends (led site done (led site p.before s)).desk)

-- nobody borrows, if the longest loan is 0; else loans end within it
abbrev pub LoansKeep : ℕ → Site → ℕ → ℕ → List Timed → LocalState → Type 0
LoansKeep zero site start until account s = NobodyBorrows site start until account s
LoansKeep (suc k) site start until account s = LoansEndWithin (suc k) site start until account s

-- the pace of a machine of which these premises are believed
abbrev pub pace_of : Premises → Pace
pace_of p = record { turn = p.turn; repeat = p.repeat; delay = p.delay; full = full_of p }

-- From the one instant to the other the network keeps these premises.
pub record KeepsPremises (p : Premises) (start until : ℕ) (turns : ℕ → List Turn) (w : World)
    (account : ℕ → List Timed) (history : ℕ → ℕ → List Act) : Type 0 where
  pub in_time : (v : ℕ) → AreInTime (account v)
  pub turns_often : (v : ℕ) → v < w.net.nodes → TurnsOften (pace_of p) start until (turns v)
  pub gives : (u v : ℕ) → IsTrue (are_joined w.net.edges u v)
      → GivesOften (pace_of p) start until (turns u) (history u v)
  pub arrives : (u v : ℕ) → IsTrue (are_joined w.net.edges u v)
      → Arrives (pace_of p) start until (turns v) (history u v)
      (passages (at_first (w.link u v)) (history u v))
  pub ticks : (v : ℕ) → v < w.net.nodes
      → TicksInTurns (site_of w.net v) start until (turns v) (account v) (w.node v)
  pub loans : (v : ℕ) → v < w.net.nodes
      → LoansKeep p.loan (site_of w.net v) start until (account v) (w.node v)

-- ---- laws

-- A node that ticks in its turns, and whose loans end, ticks fully once in each stretch of
-- `full_of`.
abbrev pub TurnsTickFully : Type 0
TurnsTickFully =
    (p : Premises) (site : Site) (start until : ℕ) (turns : List Turn) (account : List Timed)
    (s : LocalState) → AreInTime account → TurnsOften (pace_of p) start until turns
    → TicksInTurns site start until turns account s
    → LoansKeep p.loan site start until account s
    → (from : ℕ) → start ≤ from → from + full_of p ≤ until
    → IsTrue (ticks_fully_in site from (from + full_of p) account s)

-- A network that keeps its premises moves within their windows.
abbrev pub PremisesGiveWindows : Type 0
PremisesGiveWindows =
    (p : Premises) (start until : ℕ) (turns : ℕ → List Turn) (w : World)
    (account : ℕ → List Timed) (history : ℕ → ℕ → List Act) → IsWorldInRange w
    → KeepsPremises p start until turns w account history
    → MovesWithin (window_of p) start until w account history

-- So it serves after `recovery_of`, from every world in range,
abbrev pub RecoversInTime : Type 0
RecoversInTime =
    (p : Premises) (start until : ℕ) (turns : ℕ → List Turn) (w last : World)
    (account : ℕ → List Timed) (history : ℕ → ℕ → List Act) (events : List Event)
    (o : IsOrderOf account history events) (before after : List Mark) → IsWorldInRange w
    → AreProcesses w account history last → KeepsPremises p start until turns w account history
    → o.marks ≡ before ++ after → start + recovery_of w.net p ≤ until
    → AreSince (start + recovery_of w.net p) after → IsServing (world_after w before)

-- and from then on a ticket at place i, which does not leave while it waits, is lent the lock within
-- `lending_of`. If the longest loan is 0, this says nothing: no node lends then.
abbrev pub WaitsInTime : Type 0
WaitsInTime =
    (p : Premises) (start until : ℕ) (turns : ℕ → List Turn) (w last : World)
    (account : ℕ → List Timed) (history : ℕ → ℕ → List Act) (events : List Event)
    (o : IsOrderOf account history events) (s v t i : ℕ) (before stretch after : List Mark)
    → IsWorldInRange w → AreProcesses w account history last
    → KeepsPremises p start until turns w account history
    → o.marks ≡ before ++ (stretch ++ after) → start + recovery_of w.net p ≤ s
    → s + lending_of w.net i p ≤ until → AreBefore s before → AreSince s stretch
    → AreSince (s + lending_of w.net i p) after → v < w.net.nodes
    → IsAtPlace t i ((world_after w before).node v).desk.waiting
    → IsFalse (gives_up (world_after w before) (map event_of stretch) v t)
    → IsTrue (is_lent_once (world_after w before) (map event_of stretch) v t)
