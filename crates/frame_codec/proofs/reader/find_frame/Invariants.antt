use Rattle.std.proofs.Common.{[], ◌-◌, ◌≤◌, length, take}
use Rattle.frame_codec.specs.Lines.{ReadsFrames}
use Rattle.frame_codec.proofs.reader.find_frame.Given as goal

-- the front of the piece was read, and gave no frame
abbrev pub invariant-loop-at : goal.invariant-loop-at
invariant-loop-at l = (l.at ≤ length l.piece) × ReadsFrames l.lines.0 l.fn.half l.half (take l.at l.piece) []

abbrev pub decreases-loop-at : goal.decreases-loop-at
decreases-loop-at l = length l.piece - l.at
