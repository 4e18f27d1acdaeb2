use Rattle.run_model.proofs.Joined.{are-edges}
use Rattle.run_model.proofs.Edges.{edge-steps, edge-runs, renewed-out, renewed-back, sweeps-edge}
use Rattle.run_model.proofs.EdgeRanges.{edge-range}
use Rattle.run_model.proofs.laws.edges.Goals as goal

pub returns-clause-in_range : goal.returns-clause-in_range
returns-clause-in_range c =
    let known = c.joined.ensures in λ w u v range joined.
    edge-range c.neighbours.ensures.joined w u v range (are-edges known.back known.nodes known.not_to_itself w.net range.network u v joined)

pub returns-clause-steps : goal.returns-clause-steps
returns-clause-steps c =
    let known = c.joined.ensures in λ w e u v range joined.
    edge-steps w e u v range (are-edges known.back known.nodes known.not_to_itself w.net range.network u v joined)

pub returns-clause-runs : goal.returns-clause-runs
returns-clause-runs c =
    let known = c.joined.ensures in λ w es u v range joined.
    edge-runs c.in_range.ensures w es u v range (are-edges known.back known.nodes known.not_to_itself w.net range.network u v joined)

pub returns-clause-renewed : goal.returns-clause-renewed
returns-clause-renewed c =
    let known = c.joined.ensures in λ w es u v range joined.
    let pair = are-edges known.back known.nodes known.not_to_itself w.net range.network u v joined in
    (renewed-out w es u v pair.apart, renewed-back w es u v pair.apart)

pub returns-clause-sweeps : goal.returns-clause-sweeps
returns-clause-sweeps c =
    let known = c.joined.ensures in λ w r es u v range joined.
    sweeps-edge c.in_range.ensures w r es u v range (are-edges known.back known.nodes known.not_to_itself w.net range.network u v joined)
