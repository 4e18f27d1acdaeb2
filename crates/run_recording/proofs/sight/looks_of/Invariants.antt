use Rattle.std.proofs.Common.{◌≡◌, length, take, map}
use Rattle.std.specs.List.{range_with_len}
use Rattle.world.specs.judge.configuration.ConfigurationView.{world_of}
use Rattle.run_recording.specs.Seen.{look_at, places_of}
use Rattle.run_recording.proofs.sight.looks_of.Given as goal

-- the looks of the ids below `v` are written
abbrev pub invariant-loop-v : goal.invariant-loop-v
invariant-loop-v g l =
    (l.places ≡ places_of (world_of l.configuration).net → take l.v l.looks ≡ map (look_at (world_of l.configuration)) (range_with_len 0 l.v))
    × (length l.looks ≡ 64)
