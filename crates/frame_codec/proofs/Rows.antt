-- Lines that are frames, lines that are none, and a stream that a reader takes apart.
use Rattle.std.proofs.Common.{◌≡◌, ℕ, codes, List, [], ◌∷◌, ◌++◌, map, replicate, Option, None, Some, refl}
use Rattle.topology.specs.Ranges.{ranges_of}
use Rattle.topology.specs.declared.frame.Frame.{Frame}
use Rattle.topology.specs.declared.frame.Ranges.{Ranges}
use Rattle.byte_lines.specs.Lines.{newline}
use Rattle.frame_codec.specs.Spelling.{spelling, hello}
use Rattle.frame_codec.specs.Reading.{frame_of}
use Rattle.frame_codec.specs.Lines.{good_lines, frames_of_pieces}

abbrev pub frame : ℕ → ℕ → ℕ → Option ℕ → ℕ → Frame
frame seq ack distance parent ring = record { seq = seq; ack = ack; payload = record { distance = distance; parent = parent; ring = ring } }

-- on a line of three nodes with capacity 1 the counters are below 5 and the ring values below 13
abbrev pub line : Ranges
line = ranges_of (record { nodes = 3; root = 0; capacity = 1; lease = 0; edges = (0, 1) ∷ (1, 2) ∷ [] })

-- on 64 nodes with capacity 4096 the counters are below 8195 and the ring values below 379
abbrev large : Ranges
large = record { nodes = 64; counter = 8195; ring = 379 }

abbrev pub first : Frame
first = frame 0 0 1 (Some 0) 12

spelled : spelling first ≡ codes "F0000000000010000000c"
unfolding spelling
spelled = refl

is_read : map (frame_of line) (codes "F0000000000010000000c" ∷ codes "F000400030000ffff0000" ∷ []) ≡ Some first ∷ Some (frame 4 3 0 None 0) ∷ []
unfolding frame_of spelling
is_read = refl

greatest : frame_of large (codes "F200220020040003f017a") ≡ Some (frame 8194 8194 64 (Some 63) 378)
unfolding frame_of spelling
greatest = refl

-- each of these breaks one rule: a ring value of 13, an upper-case digit, a number of 5, a distance of 4, a parent of 3, a small `f`
-- in front, an empty line, a carriage return at the end
unread : List (List ℕ)
unread =
    codes "F0000000000010000000d" ∷ codes "F0000000000010000000C" ∷ codes "F00050000000100000000" ∷ codes "F00000000000400000000" ∷ codes "F00000000000000030000"
    ∷ codes "f0000000000010000000c" ∷ [] ∷ (codes "F0000000000010000000c" ++ 13 ∷ []) ∷ []

no_frame : map (frame_of line) unread ≡ replicate 8 None
unfolding unread frame_of spelling
no_frame = refl

number_8195 : frame_of large (codes "F200320020040003f017a") ≡ None
unfolding frame_of spelling
number_8195 = refl

-- junk spoils the line that it joins, and no other
abbrev stream : List ℕ
stream = codes "xyzF0000000000010000000c" ++ newline ∷ (codes "F0000000000010000000c" ++ newline ∷ [])

one_good_line : good_lines line stream ≡ first ∷ []
unfolding frame_of spelling
one_good_line = refl

half_line : good_lines line (codes "F0000000000010000000c") ≡ []
half_line = refl

in_two_pieces : frames_of_pieces line [] (codes "F00000000000" ∷ (codes "10000000c" ++ newline ∷ []) ∷ []) ≡ first ∷ []
unfolding frame_of spelling
in_two_pieces = refl

spelled_hello : hello 2 ≡ codes "H0002"
spelled_hello = refl
