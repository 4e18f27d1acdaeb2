-- All that happened in a network, in one order.
use Rattle.std.specs.Prelude.{◌≡◌, ℕ, suc, ◌*◌, ◌≤◌, ◌==◌, ◌&&◌, if◌then◌else◌, List, [], ◌∷◌, ◌++◌, map}
use Rattle.std.specs.List.{AllByRecursion}
use Rattle.run_model.specs.declared.event.Event.{Event}
use Rattle.run_model.specs.declared.event.Event.TheVariants.{Send, Take, Lose, Tick, Ask, Leave}
use Rattle.node_core.specs.Deeds.{Deed, Ticks, Sends, Takes, Asks, Leaves}
use Rattle.processes.specs.Accounts.{Timed}
use Rattle.processes.specs.Links.{Act, Accepts, Gives, Loses, the_losses}

-- at an instant a node does a deed; or the link from the first to the second node loses the item at
-- that place
pub data Mark : Type 0 where
  Does : ℕ → ℕ → Deed → Mark
  Drops : ℕ → ℕ → ℕ → ℕ → Mark

-- the event that a deed of v is
abbrev pub deed_event : ℕ → Deed → Event
deed_event v Ticks = Tick v
deed_event v (Sends u f) = Send v u
deed_event v (Takes u f) = Take u v
deed_event v (Asks t) = Ask v t
deed_event v (Leaves t) = Leave v t

-- the event that a mark is
abbrev pub event_of : Mark → Event
event_of (Does t v d) = deed_event v d
event_of (Drops t u v i) = Lose u v i

-- when it happens, in halves of an instant: losses come first
abbrev pub mark_moment : Mark → ℕ
mark_moment (Does t v d) = suc (2 * t)
mark_moment (Drops t u v i) = 2 * t

-- no mark stands after one that happens later
abbrev pub AreOrdered : List Mark → Type 0
AreOrdered [] = Unit {0}
AreOrdered (m ∷ ms) = AllByRecursion (λ later. mark_moment m ≤ mark_moment later) ms × AreOrdered ms

-- the part of v's account that a mark is
abbrev pub done_by : ℕ → Mark → List Timed
done_by v (Does t a d) = if a == v then record { instant = t; deed = d } ∷ [] else []
done_by v (Drops t a b i) = []

-- all that v does, out of all that happened
abbrev pub account_of : ℕ → List Mark → List Timed
account_of v [] = []
account_of v (m ∷ ms) = done_by v m ++ account_of v ms

-- what a deed of a at that instant is for the link from u to v
abbrev pub deed_act : ℕ → ℕ → ℕ → ℕ → Deed → List Act
deed_act u v t a (Sends b f) = if (a == u) && (b == v) then Accepts t f ∷ [] else []
deed_act u v t a (Takes b f) = if (b == u) && (a == v) then Gives t f ∷ [] else []
deed_act u v t a _ = []

-- what a mark is for the link from u to v
abbrev pub act_on : ℕ → ℕ → Mark → List Act
act_on u v (Does t a d) = deed_act u v t a d
act_on u v (Drops t a b i) = if (a == u) && (b == v) then Loses t i ∷ [] else []

-- all that happens on the link from u to v, out of all that happened
abbrev pub history_of : ℕ → ℕ → List Mark → List Act
history_of u v [] = []
history_of u v (m ∷ ms) = act_on u v m ++ history_of u v ms

-- The list of events is an order of what these accounts and histories speak of: each deed and each
-- loss once and nothing else, by their instants. Of two deeds at one instant, by two nodes, either
-- may come first.
pub record IsOrderOf (account : ℕ → List Timed) (history : ℕ → ℕ → List Act) (events : List Event)
    : Type 0 where
  pub marks : List Mark
  pub are_events : map event_of marks ≡ events
  pub ordered : AreOrdered marks
  pub nodes : (v : ℕ) → account_of v marks ≡ account v
  pub losses : (u v : ℕ) → the_losses (history_of u v marks) ≡ the_losses (history u v)
