use Rattle.std.proofs.Common.{◌≡◌, length, take, map}
use Rattle.std.specs.List.{range_with_len}
use Rattle.world.specs.judge.configuration.ConfigurationView.{world_of}
use Rattle.run_recording.specs.UnderWay.{sent_at}
use Rattle.run_recording.proofs.under_way.under_way_of.Given as goal

-- those at the places below `place` are written
abbrev pub invariant-loop-place : goal.invariant-loop-place
invariant-loop-place g l =
    (take l.place l.under_way ≡ map (sent_at (world_of l.configuration)) (range_with_len 0 l.place))
    × (length l.under_way ≡ 144)
