use Rattle.std.proofs.Common.{◌≡◌, ◌≤◌}
use Rattle.run_model.specs.Run.{run}
use Rattle.judge.specs.configuration.ConfigurationView.{world_of}
use Rattle.schedules.specs.Taking.{IsUnderWay}
use Rattle.experiments.proofs.Backs.{backs_from}
use Rattle.experiments.proofs.giving_back.give_all_back.Given as goal

-- what is given back at the nodes but those that are left was taken, and what is left leads where all of it does
abbrev pub invariant-loop-node : goal.invariant-loop-node
invariant-loop-node g l = record {
  taken : IsUnderWay g.S.EventSink.takes l.fn.sink (backs_from l.fn.lending.more (world_of l.fn.lending.configuration) l.fn.lending.left 0 l.nodes).0
      (backs_from l.lending.more (world_of l.lending.configuration) l.lending.left l.node l.nodes).0 l.sink;
  leads : run (world_of l.fn.lending.configuration) (backs_from l.fn.lending.more (world_of l.fn.lending.configuration) l.fn.lending.left 0 l.nodes).0
      ≡ run (world_of l.lending.configuration) (backs_from l.lending.more (world_of l.lending.configuration) l.lending.left l.node l.nodes).0;
  lefts : (backs_from l.fn.lending.more (world_of l.fn.lending.configuration) l.fn.lending.left 0 l.nodes).1
      ≡ (backs_from l.lending.more (world_of l.lending.configuration) l.lending.left l.node l.nodes).1;
  mores : l.lending.more ≡ l.fn.lending.more;
  failures : g.S.EventSink.failures l.fn.sink ≤ g.S.EventSink.failures l.sink;
}
