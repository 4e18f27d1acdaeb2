-- What a judge keeps of the unfinished stretch of a run, and its invariant.
use Rattle.std.specs.Prelude.{◌≡◌, ℕ, ◌<◌, Bool, true, false, not, ◌==◌, ◌&&◌, nat_lt, IsTrue, List}
use Rattle.std.specs.Int.{bit_at}
use Rattle.topology.specs.Network.{Network, are_joined}
use Rattle.configuration.specs.run_model.World.{World}
use Rattle.configuration.specs.run_model.Sweep.{has_full_tick, is_renewed}
use Rattle.configuration.specs.run_model.Stretch.{old_items}
use Rattle.configuration.specs.run_model.declared.event.Event.{Event}
use Rattle.configuration.specs.run_model.declared.happened.Happened.{Happened}
use Rattle.configuration.specs.run_model.declared.happened.Happened.TheVariants.{FullTick, LendingTick, Taken, Lost}
use Rattle.configuration.specs.PairTable.{PairTableView}
use Rattle.judge.specs.Tallies.{TalliesView, tally_of, has_place}

-- a mask with a bit for each node that still lacks a full tick, and the tallies of the links
pub record StretchView : Type 0 where
  pub lacking : ℕ
  pub tallies : TalliesView

-- the same with a different count of looks
abbrev pub with_looks : StretchView → ℕ → StretchView
with_looks s looked = record s { tallies = record s.tallies { looked = looked } }

-- the mask has the bit of v
abbrev pub has_bit : ℕ → ℕ → Bool
has_bit mask v = bit_at mask v == 1

-- no node lacks a full tick, and every link is renewed
abbrev pub IsComplete : StretchView → Type 0
IsComplete s = ((v : ℕ) → has_bit s.lacking v ≡ false) × ((u v : ℕ) → u < s.tallies.table.nodes → v < s.tallies.table.nodes → IsTrue (tally_of s.tallies u v).renewed)

-- v has had a full tick
abbrev pub is_full_tick_of : ℕ → Happened → Bool
is_full_tick_of v (FullTick u) = v == u
is_full_tick_of v _ = false

-- the node that ticked, or both nodes of the link from which an item was taken or lost, are below n
abbrev pub names_below : ℕ → Happened → Bool
names_below n (FullTick v) = nat_lt v n
names_below n (LendingTick v) = nat_lt v n
names_below n (Taken u v) = nat_lt u n && nat_lt v n
names_below n (Lost u v i) = nat_lt u n && nat_lt v n
names_below n _ = true

-- a link from which an item was taken or lost has its own place
abbrev pub names_place : PairTableView → Happened → Bool
names_place table (Taken u v) = has_place table u v
names_place table (Lost u v i) = has_place table u v
names_place table _ = true

-- there is room for the stretches of any network with as many nodes as this one
abbrev pub HasRoomFor : Network → StretchView → Type 0
HasRoomFor net s = s.tallies.table.nodes ≡ net.nodes

-- the room is laid out for a network: each link has its own tally, and pairs without a link lack
-- nothing
pub record IsRoomFor (net : Network) (s : StretchView) : Type 0 where
  pub nodes : s.tallies.table.nodes ≡ net.nodes
  pub placed : (u v : ℕ) → IsTrue (are_joined net.edges u v) → IsTrue (has_place s.tallies.table u v)
  pub apart : (u v : ℕ) → u < net.nodes → v < net.nodes → are_joined net.edges u v ≡ false → (tally_of s.tallies u v).renewed ≡ true

-- What is kept of a stretch from a world: the mask has the nodes without a full tick in it, and a
-- tally says how many of the items that were on its link when the stretch began are still there,
-- and whether the link is renewed. Pairs without a link lack nothing.
pub record IsKept (w : World) (es : List Event) (s : StretchView) : Type 0 where
  pub nodes : s.tallies.table.nodes ≡ w.net.nodes
  pub lacking : (v : ℕ) → has_bit s.lacking v ≡ (nat_lt v w.net.nodes && not (has_full_tick w es v))
  pub old : (u v : ℕ) → IsTrue (are_joined w.net.edges u v) → (tally_of s.tallies u v).old ≡ old_items w es u v
  pub renewed : (u v : ℕ) → IsTrue (are_joined w.net.edges u v) → (tally_of s.tallies u v).renewed ≡ is_renewed w es u v
  pub apart : (u v : ℕ) → u < w.net.nodes → v < w.net.nodes → are_joined w.net.edges u v ≡ false → (tally_of s.tallies u v).renewed ≡ true
