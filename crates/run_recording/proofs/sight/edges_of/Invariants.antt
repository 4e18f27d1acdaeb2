use Rattle.std.proofs.Common.{◌≡◌, length, take, map}
use Rattle.std.specs.List.{range_with_len}
use Rattle.run_recording.specs.Seen.{edge_at}
use Rattle.run_recording.proofs.sight.edges_of.Given as goal

-- the edges at the places below `k` are written
abbrev pub invariant-loop-k : goal.invariant-loop-k
invariant-loop-k g l =
    (take l.k l.edges ≡ map (edge_at l.net) (range_with_len 0 l.k))
    × (length l.edges ≡ 256)
