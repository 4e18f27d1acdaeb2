use Rattle.std.proofs.Common.{◌≡◌, ◌≤◌, ◌++◌, take, drop, length}
use Rattle.configuration.specs.ConfigurationView.{world_of}
use Rattle.configuration.specs.run_model.Run.{run}
use Rattle.record_gathering.specs.Accepted.{accepted}
use Rattle.record_gathering.proofs.gathering.happen.Given as goal

-- the events that were kept, and what is still to come
abbrev pub invariant-loop-index : goal.invariant-loop-index
invariant-loop-index g l = record {
  few : l.kept ≤ l.index;
  all : length l.events ≡ length l.fn.events;
  kept : take l.kept l.events ++ accepted (world_of l.world) (drop l.index l.events) ≡ accepted (world_of l.fn.world) l.fn.events;
  leads : run (world_of l.world) (drop l.index l.events) ≡ run (world_of l.fn.world) l.fn.events;
}
