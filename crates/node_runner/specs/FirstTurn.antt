-- What a node does itself in a list of events: how often it ticks, and what it does first.
use Rattle.std.specs.Prelude.{◌≡◌, ℕ, ◌<◌, ◌≤◌, ◌==◌, min, Bool, true, false, if◌then◌else◌, IsTrue, List, [], ◌∷◌, All, filter, length}
use Rattle.topology.specs.Network.{neighbours_of}
use Rattle.run_model.specs.World.{World}
use Rattle.run_model.specs.Step.{has_room}
use Rattle.run_model.specs.Sweep.{is_link}
use Rattle.run_model.specs.declared.event.Event.{Event}
use Rattle.run_model.specs.declared.event.Event.TheVariants.{Send, Take, Tick}

-- v does the event: its tick, send or take
abbrev pub is_deed_of : ℕ → Event → Bool
is_deed_of v (Tick u) = u == v
is_deed_of v (Send u t) = u == v
is_deed_of v (Take f u) = u == v
is_deed_of v _ = false

-- what v does, in order
abbrev pub deeds_of : ℕ → List Event → List Event
deeds_of v events = filter (is_deed_of v) events

-- the event is a tick
abbrev pub is_tick : Event → Bool
is_tick (Tick v) = true
is_tick _ = false

-- the event is a tick of v
abbrev pub is_tick_of : ℕ → Event → Bool
is_tick_of v (Tick u) = u == v
is_tick_of v _ = false

-- the event is a send from u to v
abbrev pub is_send_on : ℕ → ℕ → Event → Bool
is_send_on u v (Send a b) = is_link u v a b
is_send_on u v _ = false

-- the event is a take by v from u
abbrev pub is_take_on : ℕ → ℕ → Event → Bool
is_take_on u v (Take a b) = is_link u v a b
is_take_on u v _ = false

-- how many events there are of a kind
abbrev pub count_of : (Event → Bool) → List Event → ℕ
count_of kind events = length (filter kind events)

-- the events before the first tick
abbrev pub before_tick : List Event → List Event
before_tick [] = []
before_tick (e ∷ es) = if is_tick e then [] else e ∷ before_tick es

-- These deeds of v begin with its first turn from the world: a tick, and before its next tick at
-- least one send over each of its outgoing links that has room in the world, and from each incoming
-- link at least as many takes as it has items there, or two if it has more.
pub record IsFirstTurn (w : World) (v : ℕ) (deeds : List Event) : Type 0 where
  pub later : List Event
  pub ticks : deeds ≡ Tick v ∷ later
  pub sends : All (λ u. IsTrue (has_room w v u) → 0 < count_of (is_send_on v u) (before_tick later)) (neighbours_of w.net v)
  pub takes : All (λ u. min 2 (length (w.link u v)) ≤ count_of (is_take_on u v) (before_tick later)) (neighbours_of w.net v)
