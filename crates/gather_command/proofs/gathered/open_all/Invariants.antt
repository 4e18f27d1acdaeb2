use Rattle.std.proofs.Common.{◌≡◌, ◌++◌, List, length}
use Rattle.node_recorder.specs.Turns.{network_mark}
use Rattle.gather_command.specs.Reading.{MayFail, Reads, OpensNoMore}
use Rattle.gather_command.specs.View.{NodeRecordView}
use Rattle.gather_command.specs.Gathered.{AreOpened}
use Rattle.gather_command.proofs.gathered.open_all.Given as goal

-- whatever is opened after these records is opened with them
abbrev pub invariant-loop-node : goal.invariant-loop-node
invariant-loop-node g l = record {
  opened : (rest : List NodeRecordView)
      → AreOpened (MayFail g.R.File.Source.failures)
      (Reads (g.R.Records.opens l.fn.records) g.R.File.Source.rest (MayFail g.R.File.Source.failures))
      (network_mark l.fn.net) l.node rest
      → AreOpened (MayFail g.R.File.Source.failures)
      (Reads (g.R.Records.opens l.fn.records) g.R.File.Source.rest (MayFail g.R.File.Source.failures))
      (network_mark l.fn.net) 0 (l.nodes.items ++ rest);
  all : length l.nodes.items ≡ l.node;
  same : OpensNoMore (g.R.Records.opens l.fn.records) (g.R.Records.opens l.records);
}
