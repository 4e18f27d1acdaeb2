use Rattle.std.proofs.Common.{take}
use Rattle.std.specs.List.{All}
use Rattle.topology.specs.Network.{neighbours_of}
use Rattle.configuration.specs.ConfigurationView.{world_of}
use Rattle.layers.specs.Stages.{IsLinkTrue}
use Rattle.layers.proofs.tree.are_links_true.Given as goal

-- what is staged and copied between the node and its first neighbours shows the truth
abbrev pub invariant-loop-u : goal.invariant-loop-u
invariant-loop-u g l = All (IsLinkTrue (world_of l.configuration) l.v) (take l.u-index (neighbours_of (world_of l.configuration).net l.v))
