-- The machine by whose moves a node counts how often the token came round.
use Rattle.std.specs.Prelude.{ℕ, Option, None, Some}
use Rattle.std.specs.Option.{option_map}
use Rattle.turn_watch.specs.declared.rounds.MachineSight.{MachineSight}
use Rattle.node_core.specs.Site.{Site}
use Rattle.node_core.specs.State.{LocalState}
use Rattle.node_core.specs.euler_ring.Cycle.{lowest}

abbrev pub parent_or : Option ℕ → Option ℕ → Option ℕ
parent_or (Some parent) least = Some parent
parent_or None least = least

-- it comes in from the node's parent, or from its least neighbour if it has no parent, like the
-- root
abbrev pub counted_port : Site → LocalState → Option ℕ
counted_port site s = parent_or s.parent (lowest site.neighbours)

-- the machine that comes in from there, with its value
abbrev pub machine_from : LocalState → ℕ → MachineSight
machine_from s port = record { port = port; value = s.value port }

abbrev pub counted_machine : Site → LocalState → Option MachineSight
counted_machine site s = option_map (machine_from s) (counted_port site s)
