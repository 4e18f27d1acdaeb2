use Rattle.std.proofs.Common.{refl, ◌+◌}
use Rattle.link_model.specs.topology.Network.{Network, IsAcceptedNetwork}
use Rattle.run_model.proofs.Joined.{AreEdges, are-edges}
use Rattle.run_model.proofs.Renewing.{sweep-grows}
use Rattle.run_model.proofs.Counts.{sweeps-join}
use Rattle.run_model.proofs.Splits.{sweeps-split_sum, fewer-sweeps, sweeps-grow}
use Rattle.run_model.proofs.laws.sweep_numbers.Goals as goal

module _ (c : goal.After-joined) where
  edges : (net : Network) → IsAcceptedNetwork net → AreEdges net
  edges = let known = c.joined.ensures in are-edges known.back known.nodes known.not_to_itself

pub returns-clause-split : goal.returns-clause-split
returns-clause-split c = λ w r s es h. sweeps-split_sum w r s (r + s) es refl h

pub returns-clause-fewer : goal.returns-clause-fewer
returns-clause-fewer c = fewer-sweeps

pub returns-clause-grow : goal.returns-clause-grow
returns-clause-grow c = sweeps-grow

pub returns-clause-grows : goal.returns-clause-grows
returns-clause-grows c = λ w front es back range. sweep-grows w front es back (edges c w.net range.network)

pub returns-clause-join : goal.returns-clause-join
returns-clause-join c = λ w r s first rest range fine a b. sweeps-join w r s first rest (edges c w.net range.network) fine a b (r + s) refl
