use Rattle.link_model.specs.topology.Network.{Network, IsAcceptedNetwork}
use Rattle.run_model.proofs.Joined.{AreEdges, are-edges}
use Rattle.run_model.proofs.Counts.{earliest-best, greedy-count, no-sweep_count, counted-greatest, nothing-unfinished, count-stays, count-rises, one-count}
use Rattle.std.proofs.Common.{refl, arith, ◌<◌, [], ◌∷◌, ◌++◌}
use Rattle.run_model.specs.World.{World, IsWorldInRange}
use Rattle.run_model.specs.Run.{run}
use Rattle.run_model.specs.Count.{after_damage}
use Rattle.run_model.proofs.laws.sweep_counts.Goals as goal

module _ (c : goal.After-in_range) where
  edges : (net : Network) → IsAcceptedNetwork net → AreEdges net
  edges = let known = c.joined.ensures in are-edges known.back known.nodes known.not_to_itself

pub returns-clause-earliest : goal.returns-clause-earliest
returns-clause-earliest c = λ w r first rest range. earliest-best w r first rest (edges c w.net range.network)

pub returns-clause-greedy : goal.returns-clause-greedy
returns-clause-greedy c = λ w r first rest range. greedy-count w r first rest (edges c w.net range.network)

pub returns-clause-none : goal.returns-clause-none
returns-clause-none c = no-sweep_count

pub returns-clause-one : goal.returns-clause-one
returns-clause-one c = λ w es r s a b. one-count (after_damage w es).world (after_damage w es).rest r s a b

pub returns-clause-counted : goal.returns-clause-counted
returns-clause-counted c = λ w r done rest range fine count. counted-greatest w r done rest (edges c w.net range.network) fine count.sweeps count.unfinished

some-node : (w : World) → IsWorldInRange w → 0 < w.net.nodes
some-node w range = omega (arith, range.network.limits.two)

pub returns-clause-starts : goal.returns-clause-starts
returns-clause-starts c = λ w range. record { sweeps = refl; unfinished = nothing-unfinished w (some-node w range) }

pub returns-clause-stays : goal.returns-clause-stays
returns-clause-stays c = count-stays

pub returns-clause-rises : goal.returns-clause-rises
returns-clause-rises c = λ w r done rest e range count sweep. count-rises w r done rest e (some-node (run w (done ++ (rest ++ e ∷ []))) (c.in_range.ensures w (done ++ (rest ++ e ∷ [])) range)) count sweep
