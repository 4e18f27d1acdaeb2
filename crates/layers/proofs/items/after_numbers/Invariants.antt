use Rattle.std.proofs.Common.{◌≡◌, ◌≤◌, ◌↔◌, ℕ, List, ◌++◌, length, take}
use Rattle.configuration.specs.ConfigurationView.{world_of}
use Rattle.configuration.specs.data_link.Edge.{newest_first}
use Rattle.layers.specs.Numbers.{number_of}
use Rattle.layers.specs.RingReading.{MayFollow}
use Rattle.layers.proofs.items.after_numbers.Given as goal

-- the items from `left` on are read
abbrev pub invariant-loop-left : goal.invariant-loop-left
invariant-loop-left g l =
    (l.left ≤ length ((world_of l.configuration).link l.from l.to))
    × (l.reading.modulus ≡ l.fn.start.modulus)
    × ((rest : List ℕ) → MayFollow l.reading (newest_first (number_of l.number) (take l.left ((world_of l.configuration).link l.from l.to)) ++ rest)
    ↔ MayFollow l.fn.start (newest_first (number_of l.number) ((world_of l.configuration).link l.from l.to) ++ rest))

abbrev pub decreases-loop-left : goal.decreases-loop-left
decreases-loop-left g l = l.left
