-- A world and the events of a run, as one edge sees them.
use Rattle.std.specs.Prelude.{ℕ, if◌then◌else◌, List, [], ◌∷◌}
use Rattle.link_model.specs.topology.declared.frame.Payload.{Payload}
use Rattle.node_core.specs.data_link.Edge.{EdgeState, EdgeEvent, SendOut, SendBack, TakeOut, TakeBack, LoseOut, LoseBack, Elsewhere}
use Rattle.node_core.specs.Machines.{payload_for}
use Rattle.run_model.specs.World.{World, site}
use Rattle.run_model.specs.Step.{step}
use Rattle.run_model.specs.Sweep.{is_link}
use Rattle.run_model.specs.declared.event.Event.{Event}
use Rattle.run_model.specs.declared.event.Event.TheVariants.{Send, Take, Lose}

-- the edge between u and v as u sees it: both ports, what goes out from u, and what comes back
abbrev pub edge_of : World → ℕ → ℕ → EdgeState
edge_of w u v = record { near = (w.node u).port v; far = (w.node v).port u; out = w.link u v; back = w.link v u }

-- what v says of itself to u
abbrev pub present : World → ℕ → ℕ → Payload
present w v u = payload_for (site w v) (w.node v) u

-- an event of the link from a to b, for the edge between u and v: `out` if that link goes from u
-- to v, `back` if it goes from v to u, else elsewhere
abbrev pub either_way : (u v a b : ℕ) → EdgeEvent → EdgeEvent → EdgeEvent
either_way u v a b out back = if is_link u v a b then out else if is_link v u a b then back else Elsewhere

-- What an event of the world is for the edge between u and v, as u sees it. A node that takes an
-- item hands in what it says of itself. Every edge has an event for each event of the world, so a
-- run projects to a run of the same length, and no list is filtered.
abbrev pub edge_event : World → Event → ℕ → ℕ → EdgeEvent
edge_event w (Send a b) u v = either_way u v a b SendOut SendBack
edge_event w (Take a b) u v = either_way u v a b (TakeOut (present w v u)) (TakeBack (present w u v))
edge_event w (Lose a b i) u v = either_way u v a b (LoseOut i) (LoseBack i)
edge_event w _ u v = Elsewhere

-- the events of a list as the edge between u and v sees them, one for one
abbrev pub edge_events : World → List Event → ℕ → ℕ → List EdgeEvent
edge_events w [] u v = []
edge_events w (e ∷ es) u v = edge_event w e u v ∷ edge_events (step w e) es u v
