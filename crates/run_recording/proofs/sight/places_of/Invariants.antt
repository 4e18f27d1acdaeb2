use Rattle.std.proofs.Common.{◌≡◌, length, take, map}
use Rattle.std.specs.List.{range_with_len}
use Rattle.run_recording.specs.Seen.{place_at}
use Rattle.run_recording.proofs.sight.places_of.Given as goal

-- the places of the ids below `v` are written
abbrev pub invariant-loop-v : goal.invariant-loop-v
invariant-loop-v g l =
    (take l.v l.places ≡ map (place_at l.net) (range_with_len 0 l.v))
    × (length l.places ≡ 64)
