use Rattle.link_model.specs.topology.Network.{Network, IsAcceptedNetwork}
use Rattle.run_model.proofs.Joined.{AreEdges, are-edges}
use Rattle.run_model.proofs.Stretches.{ticks-go_on, renewed-goes_on, old-starts, old-goes_on, old-are_there}
use Rattle.run_model.proofs.laws.stretches.Goals as goal

module _ (c : goal.After-joined) where
  edges : (net : Network) → IsAcceptedNetwork net → AreEdges net
  edges = let known = c.joined.ensures in are-edges known.back known.nodes known.not_to_itself

pub returns-clause-ticks : goal.returns-clause-ticks
returns-clause-ticks c = ticks-go_on

pub returns-clause-renewed : goal.returns-clause-renewed
returns-clause-renewed c = λ w es e u v range joined. renewed-goes_on w es e u v (edges c w.net range.network u v joined)

pub returns-clause-old_start : goal.returns-clause-old_start
returns-clause-old_start c = old-starts

pub returns-clause-old_go_on : goal.returns-clause-old_go_on
returns-clause-old_go_on c = old-goes_on

pub returns-clause-old_are_there : goal.returns-clause-old_are_there
returns-clause-old_are_there c = λ w es u v range joined. old-are_there w es u v (edges c w.net range.network u v joined)
