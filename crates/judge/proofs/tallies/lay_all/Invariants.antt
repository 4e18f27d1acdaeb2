use Rattle.std.proofs.Common.{◌≡◌, ◌+◌, ◌*◌, take}
use Rattle.topology.specs.Network.{are_joined}
use Rattle.judge.specs.Laid.{IsLaid}
use Rattle.judge.proofs.tallies.lay_all.Given as goal

-- the links of the edges so far have places: two for each edge, after the first place
abbrev pub invariant-loop-edge : goal.invariant-loop-edge
invariant-loop-edge g l =
    IsLaid l.net.nodes (are_joined (take l.edge-index l.net.edges)) l.table l.place × (l.place ≡ 2 * l.edge-index + 1)
