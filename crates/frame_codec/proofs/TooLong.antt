-- A line of another length than 21 is no frame's.
use Rattle.std.proofs.Common.{◌≡◌, ℕ, ◌<◌, List, length, Option, None, Some, refl, ap, ◌∙◌, arith}
use Rattle.topology.specs.declared.frame.Frame.{Frame}
use Rattle.topology.specs.declared.frame.Ranges.{Ranges}
use Rattle.frame_codec.specs.Spelling.{spelling}
use Rattle.frame_codec.specs.Reading.{frame_of}
use Rattle.frame_codec.proofs.Readings.{spells}

spelled_length : (f : Frame) → length (spelling f) ≡ 21
unfolding spelling
spelled_length f = refl

pub frame_length : (r : Ranges) (line : List ℕ) (f : Frame) → frame_of r line ≡ Some f → length line ≡ 21
frame_length r line f e = ap length ((spells r line f e).0) ∙ spelled_length f

by_length : (r : Ranges) (line : List ℕ) (read : Option Frame) → frame_of r line ≡ read → 21 < length line → frame_of r line ≡ None
by_length r line None e h = e
by_length r line (Some f) e h = let l : length line ≡ 21 = frame_length r line f e in absurd (let no : ⊥ = omega (arith, l, h) in no)

pub too_long_unread : (r : Ranges) (line : List ℕ) → 21 < length line → frame_of r line ≡ None
too_long_unread r line h = by_length r line (frame_of r line) refl h
