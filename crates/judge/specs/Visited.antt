-- The nodes that the privilege has visited, as a mask with a bit for each.
use Rattle.std.specs.Prelude.{◌≡◌, ℕ, ◌<◌, Bool, false, ◌==◌, ◌&&◌, nat_lt, IsTrue, List}
use Rattle.topology.specs.Network.{Network}
use Rattle.configuration.specs.run_model.World.{World}
use Rattle.configuration.specs.run_model.Visited.{is_visited}
use Rattle.configuration.specs.run_model.declared.event.Event.{Event}
use Rattle.configuration.specs.run_model.declared.happened.Happened.{Happened}
use Rattle.configuration.specs.run_model.declared.happened.Happened.TheVariants.{FullTick, LendingTick, Taken}
use Rattle.judge.specs.Stretch.{has_bit}

-- The mask has exactly the bits of the nodes that were privileged at some moment since the last
-- accepted damage, including the moment right after it, or since the start if there was none.
abbrev pub AreVisited : World → List Event → ℕ → Type 0
AreVisited start es mask = (v : ℕ) → has_bit mask v ≡ (nat_lt v start.net.nodes && is_visited start es v)

-- the mask has the bit of each node of the network
abbrev pub AreAllVisited : Network → ℕ → Type 0
AreAllVisited net mask = (v : ℕ) → v < net.nodes → IsTrue (has_bit mask v)

-- v ticked, or took an item
abbrev pub ticked_or_took : ℕ → Happened → Bool
ticked_or_took v (FullTick u) = v == u
ticked_or_took v (LendingTick u) = v == u
ticked_or_took v (Taken u w) = v == w
ticked_or_took v _ = false
