-- Schedules in which one link or one node is slower than the others: it has its part only in a share
-- of the rounds. A slow link carries its items only in these, and a slow node ticks only in these.
use Rattle.std.specs.Prelude.{ℕ, ◌+◌, ◌*◌, ◌/◌, ◌==◌, ◌&&◌, Bool, false, not, nat_lt, if◌then◌else◌, zero, suc, List, [], ◌++◌, filter}
use Rattle.rand_pcg.specs.Lcg.{Lcg}
use Rattle.topology.specs.Network.{Network}
use Rattle.damage_tool.specs.Draws.{draw}
use Rattle.configuration.specs.run_model.declared.event.Event.{Event}
use Rattle.configuration.specs.run_model.declared.event.Event.TheVariants.{Send, Take, Tick}
use Rattle.schedules.specs.Random.{draw_link}
use Rattle.schedules.specs.Rounds.{round}
use Rattle.schedules.specs.declared.slow.Slow.{Slow}
use Rattle.schedules.specs.declared.slow.Slow.TheVariants.{Link, Node}

-- in how many of the first n rounds the slow one has its part: in `share` of a hundred, rounded
-- down
abbrev pub parts : (share n : ℕ) → ℕ
parts share n = n * share / 100

-- It has its part in round i, the first being round 0, if it has its part in one more of the first
-- i + 1 rounds than of the first i rounds. So these rounds are spread as evenly as can be, like the
-- steps of a line that is drawn on a grid (Bresenham, 1965).
abbrev pub has_part : (share i : ℕ) → Bool
has_part share i = nat_lt (parts share i) (parts share (i + 1))

-- the event is the slow one's part: a send or a take on the link, or a tick of the node
abbrev pub is_part : Slow → Event → Bool
is_part (Link u v) (Send a b) = (a == u) && (b == v)
is_part (Link u v) (Take a b) = (a == u) && (b == v)
is_part (Node v) (Tick a) = a == v
is_part _ _ = false

-- these events without the slow one's part
abbrev pub others : Slow → List Event → List Event
others slow es = filter (λ e. not (is_part slow e)) es

-- round i: a whole round, or one without the slow one's part
abbrev pub slow_round : Network → Slow → (share i : ℕ) → List Event
slow_round net slow share i = if has_part share i then round net else others slow (round net)

-- n rounds, from round i on
abbrev pub slow_rounds : Network → Slow → (share i n : ℕ) → List Event
slow_rounds net slow share i zero = []
slow_rounds net slow share i (suc n) = slow_round net slow share i ++ slow_rounds net slow share (i + 1) n

-- the link, or the node, that a generator's next words name
abbrev pub slow_link : Network → Lcg → Slow
slow_link net g = let link = draw_link net g in Link link.0.0 link.0.1

abbrev pub slow_node : Network → Lcg → Slow
slow_node net g = Node (draw net.nodes g).0
