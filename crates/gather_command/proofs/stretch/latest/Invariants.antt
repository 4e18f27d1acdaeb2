use Rattle.node_recorder.specs.Turns.{network_mark}
use Rattle.gather_command.specs.Reading.{MayFail, Reads, OpensNoMore}
use Rattle.gather_command.proofs.Stretches.{AreReadThrough}
use Rattle.gather_command.proofs.stretch.latest.Given as goal

-- the records of the nodes in front were read to their ends
abbrev pub invariant-loop-node : goal.invariant-loop-node
invariant-loop-node g l = record {
  through : AreReadThrough (Reads (g.R.Records.opens l.fn.records) g.R.File.Source.rest (MayFail g.R.File.Source.failures))
      (network_mark l.fn.net) l.node l.greatest;
  same : OpensNoMore (g.R.Records.opens l.fn.records) (g.R.Records.opens l.records);
}
