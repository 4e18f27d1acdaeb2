use Rattle.run_model.proofs.Joined.{are-edges}
use Rattle.run_model.proofs.Strict.{strict-sweeps}
use Rattle.run_model.proofs.laws.strict_sweeps.Goals as goal

pub returns : goal.returns
returns c =
    let known = c.joined.ensures in λ w r es range s.
    strict-sweeps c.sweeps.ensures.strict c.neighbours.ensures.joined (are-edges known.back known.nodes known.not_to_itself) c.in_range.ensures w r es range s
