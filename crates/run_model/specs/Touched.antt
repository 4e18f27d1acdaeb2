-- The nodes and the links that an event may change: at most one of each, or two of each if an edge
-- joins or goes.
use Rattle.std.specs.Prelude.{ℕ, Bool, false, ◌==◌, ◌||◌}
use Rattle.run_model.specs.Sweep.{is_link}
use Rattle.run_model.specs.declared.event.Event.{Event}
use Rattle.run_model.specs.declared.event.Event.TheVariants.{Send, Take, Lose, Tick, Ask, Leave, Damage}
use Rattle.run_model.specs.declared.event.Harm.{Harm}
use Rattle.run_model.specs.declared.event.Harm.TheVariants as harm

-- a harm writes at v, or v is an end of the edge that joins or goes
abbrev pub is_node_harmed : Harm → (v : ℕ) → Bool
is_node_harmed (harm.Own a d p) v = a == v
is_node_harmed (harm.Counters a b seq last) v = a == v
is_node_harmed (harm.Staged a b payload) v = a == v
is_node_harmed (harm.Copy a b payload) v = a == v
is_node_harmed (harm.Value a b x) v = a == v
is_node_harmed (harm.Desk a lent left served) v = a == v
is_node_harmed (harm.Item a b item) v = false
is_node_harmed (harm.Empty a b) v = false
is_node_harmed (harm.Join a b) v = a == v || b == v
is_node_harmed (harm.Part a b) v = a == v || b == v

-- an event is one of v's own: a take, tick, ask or leave at v, or harm to it
abbrev pub is_node_touched : Event → (v : ℕ) → Bool
is_node_touched (Send a b) v = false
is_node_touched (Take a b) v = b == v
is_node_touched (Lose a b i) v = false
is_node_touched (Tick a) v = a == v
is_node_touched (Ask a t) v = a == v
is_node_touched (Leave a t) v = a == v
is_node_touched (Damage h) v = is_node_harmed h v

-- a harm writes to the link from u to v, or the edge between them joins or goes
abbrev pub is_link_harmed : Harm → (u v : ℕ) → Bool
is_link_harmed (harm.Item a b item) u v = is_link u v a b
is_link_harmed (harm.Empty a b) u v = is_link u v a b
is_link_harmed (harm.Join a b) u v = is_link u v a b || is_link v u a b
is_link_harmed (harm.Part a b) u v = is_link u v a b || is_link v u a b
is_link_harmed _ u v = false

-- an event is one of the link from u to v: a send, take or loss there, or harm to it
abbrev pub is_link_touched : Event → (u v : ℕ) → Bool
is_link_touched (Send a b) u v = is_link u v a b
is_link_touched (Take a b) u v = is_link u v a b
is_link_touched (Lose a b i) u v = is_link u v a b
is_link_touched (Damage h) u v = is_link_harmed h u v
is_link_touched _ u v = false
