use Rattle.std.proofs.Common.{◌≡◌, ◌≤◌, ◌*◌, length, take}
use Rattle.std.specs.List.{flat_map, range_with_len}
use Rattle.layers.specs.Links.{links_from}
use Rattle.layers.proofs.links.link_count.Given as goal

-- the links that lead from the nodes below `from` are counted
abbrev pub invariant-loop-from : goal.invariant-loop-from
invariant-loop-from g l =
    (l.count ≡ length (flat_map (links_from l.net) (take l.from (range_with_len 0 l.net.nodes))))
    × (l.count ≤ 64 * l.from)
