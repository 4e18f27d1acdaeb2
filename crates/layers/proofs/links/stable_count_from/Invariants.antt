use Rattle.std.proofs.Common.{◌≤◌, length, map, take}
use Rattle.topology.specs.Network.{neighbours_of}
use Rattle.configuration.specs.ConfigurationView.{world_of}
use Rattle.layers.specs.Links.{AreSuch, IsLinkStable}
use Rattle.layers.proofs.links.stable_count_from.Given as goal

-- the links to the first neighbours are counted
abbrev pub invariant-loop-to : goal.invariant-loop-to
invariant-loop-to g l =
    AreSuch (IsLinkStable (world_of l.configuration)) (map (λ v. (l.from, v)) (take l.to-index (neighbours_of (world_of l.configuration).net l.from))) l.count
    × (l.count ≤ l.to-index)
