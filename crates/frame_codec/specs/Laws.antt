-- Laws of frame lines.
use Rattle.std.specs.Prelude.{◌≡◌, ℕ, ◌^◌, ◌<◌, IsTrue, ◌↔◌, List, [], ◌∷◌, ◌++◌, Some}
use Rattle.std.specs.List.{concat}
use Rattle.topology.specs.Ranges.{frame_fits}
use Rattle.topology.specs.declared.frame.Frame.{Frame}
use Rattle.topology.specs.declared.frame.Ranges.{Ranges}
use Rattle.byte_lines.specs.Lines.{newline}
use Rattle.frame_codec.specs.Spelling.{spelling}
use Rattle.frame_codec.specs.Reading.{frame_of}
use Rattle.frame_codec.specs.Lines.{good_lines, frames_of_pieces}

-- the ranges are numbers of 16 bits
pub record AreNarrow (r : Ranges) : Type 0 where
  pub nodes : r.nodes < 2 ^ 16
  pub counter : r.counter < 2 ^ 16
  pub ring : r.ring < 2 ^ 16

-- a line is read as a frame exactly if it is the frame's spelling and the frame is in range
abbrev pub OneReading : Type 0
OneReading = (r : Ranges) → AreNarrow r → (line : List ℕ) (f : Frame)
    → (frame_of r line ≡ Some f) ↔ ((line ≡ spelling f) × IsTrue (frame_fits r f))

-- in whatever pieces a stream comes, their frames are the good lines of the whole
abbrev pub AnyCutting : Type 0
AnyCutting =
    (r : Ranges) (pieces : List (List ℕ))
    → frames_of_pieces r [] pieces ≡ good_lines r (concat pieces)

-- whatever comes before a newline, what follows it is read as from the start
abbrev pub JunkEndsAtNewline : Type 0
JunkEndsAtNewline = (r : Ranges) (junk text : List ℕ)
    → good_lines r (junk ++ newline ∷ text)
    ≡ good_lines r (junk ++ newline ∷ []) ++ good_lines r text
