use Rattle.std.proofs.Common.{ℕ, ◌<◌}
use Rattle.configuration.specs.ConfigurationView.{world_of}
use Rattle.layers.specs.Links.{AreStableFrom}
use Rattle.layers.proofs.links.are_links_stable.Given as goal

-- the nodes below `from` have stable links
abbrev pub invariant-loop-from : goal.invariant-loop-from
invariant-loop-from g l = (u : ℕ) → u < l.from → AreStableFrom (world_of l.configuration) u
