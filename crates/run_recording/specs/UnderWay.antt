-- How many frames are under way between the nodes of a small network.
use Rattle.std.specs.Prelude.{ℕ, ◌/◌, ◌%◌, Bool, ◌&&◌, nat_lt, nat_le, if◌then◌else◌, List, length, map}
use Rattle.std.specs.List.{range_with_len}
use Rattle.world.specs.run_model.World.{World}

-- the network has at most 12 nodes, and these two are among them
abbrev pub is_framed_between : World → ℕ → ℕ → Bool
is_framed_between w u v = nat_le w.net.nodes 12 && (nat_lt u w.net.nodes && nat_lt v w.net.nodes)

-- how many items, frames or noise, are under way from one node to another; in a larger network none
-- are seen
abbrev pub sent_between : World → ℕ → ℕ → ℕ
sent_between w u v = if is_framed_between w u v then length (w.link u v) else 0

-- those from u to v stand at the place 12 u + v
abbrev pub sent_at : World → ℕ → ℕ
sent_at w place = sent_between w (place / 12) (place % 12)

-- those of all pairs of 12 nodes
abbrev pub under_way_of : World → List ℕ
under_way_of w = map (sent_at w) (range_with_len 0 144)
