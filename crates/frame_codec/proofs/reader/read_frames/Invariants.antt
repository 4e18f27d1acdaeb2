use Rattle.std.proofs.Common.{◌≡◌, length, vec_capacity}
use Rattle.frame_codec.proofs.SaidFrames.{HasRead}
use Rattle.frame_codec.proofs.reader.read_frames.Given as goal

-- the front of the piece was read, and there is as much room as there was
abbrev pub invariant-loop-rest : goal.invariant-loop-rest
invariant-loop-rest g l = record {
  read : HasRead l.lines.0 l.fn.half l.half l.fn.piece l.rest l.fn.out.items l.out.items;
  room : vec_capacity l.out ≡ vec_capacity l.fn.out;
}

abbrev pub decreases-loop-rest : goal.decreases-loop-rest
decreases-loop-rest g l = length l.rest
