use Rattle.std.proofs.Common.{◌≤◌, ◌*◌, take}
use Rattle.std.specs.List.{flat_map, range_with_len}
use Rattle.configuration.specs.ConfigurationView.{world_of}
use Rattle.layers.specs.Links.{AreSuch, IsLinkStable, links_from}
use Rattle.layers.proofs.links.stable_count.Given as goal

-- the links that lead from the nodes below `from` are counted
abbrev pub invariant-loop-from : goal.invariant-loop-from
invariant-loop-from g l =
    AreSuch (IsLinkStable (world_of l.configuration))
    (flat_map (links_from (world_of l.configuration).net) (take l.from (range_with_len 0 (world_of l.configuration).net.nodes))) l.count
    × (l.count ≤ 64 * l.from)
