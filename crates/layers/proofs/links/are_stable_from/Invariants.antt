use Rattle.std.proofs.Common.{take}
use Rattle.std.specs.List.{All}
use Rattle.topology.specs.Network.{neighbours_of}
use Rattle.configuration.specs.ConfigurationView.{world_of}
use Rattle.layers.specs.Links.{IsLinkStable}
use Rattle.layers.proofs.links.are_stable_from.Given as goal

-- the links to the first neighbours are stable
abbrev pub invariant-loop-to : goal.invariant-loop-to
invariant-loop-to g l = All (λ v. IsLinkStable (world_of l.configuration) (l.from, v)) (take l.to-index (neighbours_of (world_of l.configuration).net l.from))
