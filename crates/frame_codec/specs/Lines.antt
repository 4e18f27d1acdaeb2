-- The frames of a text's lines, and what a reader of them says.
use Rattle.std.specs.Prelude.{◌≡◌, ℕ, List, [], ◌∷◌, ◌++◌}
use Rattle.std.specs.List.{filter_map}
use Rattle.topology.specs.declared.frame.Frame.{Frame}
use Rattle.topology.specs.declared.frame.Ranges.{Ranges}
use Rattle.byte_lines.specs.Kept.{Kept, kept, StandsAfter}
use Rattle.byte_lines.specs.Lines.{lines_after, half_after}
use Rattle.frame_codec.specs.Reading.{frame_of}

-- the frames of the lines that end in a text, after a half line that came before
abbrev pub frames_after : Ranges → List ℕ → List ℕ → List Frame
frames_after r half text = filter_map (frame_of r) (lines_after half text)

-- the good lines of a text: the frames of its lines, in order
abbrev pub good_lines : Ranges → List ℕ → List Frame
good_lines r text = frames_after r [] text

-- Whatever half line was kept before, what is kept now is the half line at the end of the piece;
-- and these are the frames of the lines that end in it.
pub record ReadsFrames (r : Ranges) (old new : Kept) (piece : List ℕ) (frames : List Frame)
    : Type 0 where
  pub half : (half : List ℕ) → old ≡ kept 21 half → new ≡ kept 21 (half_after half piece)
  pub said : (half : List ℕ) → old ≡ kept 21 half → frames ≡ frames_after r half piece

-- whatever text a reader had read, it has now read the piece too, and the frames are the good lines
-- that this adds
abbrev pub ReadsOn : Ranges → Kept → Kept → List ℕ → List Frame → Type 0
ReadsOn r old new piece frames =
    (text : List ℕ) → StandsAfter 21 text old
    → StandsAfter 21 (text ++ piece) new
    × (good_lines r (text ++ piece) ≡ good_lines r text ++ frames)

-- the frames of a stream that comes in pieces, each read after the half line of those before
abbrev pub frames_of_pieces : Ranges → List ℕ → List (List ℕ) → List Frame
frames_of_pieces r half [] = []
frames_of_pieces r half (piece ∷ pieces) =
    frames_after r half piece ++ frames_of_pieces r (half_after half piece) pieces
