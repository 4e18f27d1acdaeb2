use Rattle.std.proofs.Common.{◌≡◌, ◌+◌, drop}
use Rattle.configuration.specs.ConfigurationView.{world_of}
use Rattle.record_gathering.specs.Frames.{in_front, is_under_way}
use Rattle.record_gathering.proofs.frames.place_of.Given as goal

-- none of the items so far is the frame
abbrev pub invariant-loop-index : goal.invariant-loop-index
invariant-loop-index g l =
    let items = (world_of l.world).link l.passage.from l.passage.to in record {
      in_front : in_front l.passage.frame items ≡ l.index + in_front l.passage.frame (drop l.index items);
      is_there : is_under_way l.passage.frame items ≡ is_under_way l.passage.frame (drop l.index items);
    }
