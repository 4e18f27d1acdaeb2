-- The nodes' own distances and parents.
use Rattle.std.specs.Prelude.{◌≡◌, ℕ, ◌<◌}
use Rattle.topology.specs.Tree.{distance_of, parent_of}
use Rattle.run_model.specs.World.{World}

-- the node has its distance from the root and its true parent
abbrev pub IsNodeShown : World → ℕ → Type 0
IsNodeShown w v =
    ((w.node v).distance ≡ distance_of w.net v) × ((w.node v).parent ≡ parent_of w.net v)

-- each node has its distance from the root and its true parent
abbrev pub IsTreeShown : World → Type 0
IsTreeShown w = (v : ℕ) → v < w.net.nodes → IsNodeShown w v
