-- A line is read as a frame exactly if it is the frame's spelling and the frame is in range.
use Rattle.std.proofs.Common.{◌≡◌, ◌≢◌, ℕ, ◌+◌, ◌*◌, ◌/◌, ◌%◌, ◌^◌, ◌<◌, ◌&&◌, Bool, true, List, ◌∷◌, ◌++◌, length, take, drop, slice_index, Option, None, Some, IfSome, IsTrue, refl, ap, sym, ◌∙◌, arith, if◌then◌else◌}
use Rattle.std.proofs.lemmas.Grind.{common_steps}
use Rattle.std.proofs.lemmas.Slice.Eq.{bytes_eq-Decides}
use Rattle.std.proofs.lemmas.List.{take-append-drop, drop-drop}
use Rattle.std.specs.Str.{bytes_eq}
use Rattle.topology.specs.Ranges.{frame_fits, parent_fits}
use Rattle.topology.specs.declared.frame.Frame.{Frame}
use Rattle.topology.specs.declared.frame.Ranges.{Ranges}
use Rattle.frame_codec.specs.Spelling.{digit, parent_number, spelling}
use Rattle.frame_codec.specs.Laws.{AreNarrow}
use Rattle.frame_codec.specs.Reading.{digit_value, parent_of, candidate, frame_of}

module _ (line : List ℕ) where
  -- the field from an index on, and what follows it
  cut : (n : ℕ) → drop n line ≡ take 4 (drop n line) ++ drop (n + 4) line
  cut n = sym (take-append-drop 4 (drop n line)) ∙ ap (λ xs. take 4 (drop n line) ++ xs) (drop-drop 4 n line)

  -- a line of 21 bytes is its first byte and its five fields
  pub fields : length line ≡ 21
      → line ≡ slice_index line 0 ∷ (take 4 (drop 1 line) ++ (take 4 (drop 5 line) ++ (take 4 (drop 9 line) ++ (take 4 (drop 13 line) ++ take 4 (drop 17 line)))))
  fields is =
      let first : line ≡ slice_index line 0 ∷ drop 1 line = grind (arith, common_steps) in
      let last : drop 17 line ≡ take 4 (drop 17 line) = grind (arith, common_steps) in
      first ∙ ap (λ xs. slice_index line 0 ∷ xs) (cut 1 ∙ ap (λ xs. take 4 (drop 1 line) ++ xs) (cut 5 ∙ ap (λ xs. take 4 (drop 5 line) ++ xs)
      (cut 9 ∙ ap (λ xs. take 4 (drop 9 line) ++ xs) (cut 13 ∙ ap (λ xs. take 4 (drop 13 line) ++ xs) last))))

-- a line of 5 bytes is its first byte and one field
pub id_field : (line : List ℕ) → length line ≡ 5 → line ≡ slice_index line 0 ∷ take 4 (drop 1 line)
id_field line is = grind (arith, common_steps)

-- the value of a digit
value_of : (d : ℕ) → d < 16 → digit_value (digit d) ≡ d
value_of d h = grind (arith, common_steps)

-- the number of four digits
pub number_of : (n : ℕ) → n < 2 ^ 16 →
    4096 * digit_value (digit (n / 4096 % 16)) + 256 * digit_value (digit (n / 256 % 16))
    + 16 * digit_value (digit (n / 16 % 16)) + digit_value (digit (n % 16)) ≡ n
number_of n h =
    rw (value_of (n / 4096 % 16) (omega arith), value_of (n / 256 % 16) (omega arith), value_of (n / 16 % 16) (omega arith), value_of (n % 16) (omega arith))
    (omega arith)

pub number_again : (n : ℕ) → parent_number (parent_of n) ≡ n
number_again n = grind (arith, common_steps)

parent_back : (nodes : ℕ) (p : Option ℕ) → nodes < 2 ^ 16 → parent_fits nodes p ≡ true
    → (parent_number p < 2 ^ 16) × (parent_of (parent_number p) ≡ p)
parent_back nodes p h fits = grind (arith, common_steps)

-- the frame that a frame's spelling may spell
candidate_of : (seq ack distance ring : ℕ) (parent : Option ℕ) → seq < 2 ^ 16 → ack < 2 ^ 16 → distance < 2 ^ 16 → ring < 2 ^ 16
    → parent_number parent < 2 ^ 16 → parent_of (parent_number parent) ≡ parent
    → let f : Frame = record { seq = seq; ack = ack; payload = record { distance = distance; parent = parent; ring = ring } } in
    candidate (spelling f) ≡ f
unfolding spelling
candidate_of seq ack distance ring parent s a d x p back =
    rw (number_of seq s, number_of ack a, number_of distance d, number_of ring x, number_of (parent_number parent) p, back) refl

-- the choice by two tests
module _ {X : Type 0} (line text : List ℕ) (fits : Bool) (x y : X) where
  both : (if bytes_eq line text && fits then Some x else None) ≡ Some y → (line ≡ text) × (fits ≡ true) × (x ≡ y)
  both e = grind (arith, common_steps, bytes_eq-Decides)

  same_text : line ≡ text → (if bytes_eq line text && fits then Some x else None) ≡ (if fits then Some x else None)
  same_text e = grind (arith, common_steps, bytes_eq-Decides)

  other_text : line ≢ text → (if bytes_eq line text && fits then Some x else None) ≡ None
  other_text e = grind (arith, common_steps, bytes_eq-Decides)

-- what is not spelled is not read
pub unread : (r : Ranges) (line : List ℕ) → ((f : Frame) → line ≢ spelling f) → frame_of r line ≡ None
unfolding frame_of
unread r line never =
    let f : Frame = candidate line in
    other_text line (spelling f) (frame_fits r f) f f (never f)

-- the frame of a line that spells it
pub read_as : (r : Ranges) (line : List ℕ) (f : Frame) → line ≡ spelling f → f ≡ candidate line
    → frame_of r line ≡ (if frame_fits r f then Some f else None)
unfolding frame_of
read_as r line f e same =
    let g : Frame = candidate line in
    let e' : line ≡ spelling g = rw same at e in
    rw same (same_text line (spelling g) (frame_fits r g) g g e')

pub spells : (r : Ranges) (line : List ℕ) (f : Frame) → frame_of r line ≡ Some f → (line ≡ spelling f) × IsTrue (frame_fits r f)
unfolding frame_of
spells r line f e =
    let g : Frame = candidate line in
    let parts : (line ≡ spelling g) × (frame_fits r g ≡ true) × (g ≡ f) = both line (spelling g) (frame_fits r g) g f e in
    rw (← parts.2) (parts.0, parts.1)

pub reads : (r : Ranges) → AreNarrow r → (line : List ℕ) (f : Frame) → line ≡ spelling f → IsTrue (frame_fits r f) → frame_of r line ≡ Some f
reads r narrow line f e fits =
    let n = narrow.nodes in
    let c = narrow.counter in
    let x = narrow.ring in
    let parent : (parent_number f.payload.parent < 2 ^ 16) × (parent_of (parent_number f.payload.parent) ≡ f.payload.parent)
    = parent_back r.nodes f.payload.parent n (grind arith) in
    let back : candidate (spelling f) ≡ f =
    candidate_of f.seq f.ack f.payload.distance f.payload.ring f.payload.parent (grind arith) (grind arith) (grind arith) (grind arith) parent.0 parent.1 in
    rw (read_as r line f e (sym back ∙ ap candidate (sym e)), fits) refl

pub found : (r : Ranges) (line : List ℕ) (read : Option Frame) → read ≡ frame_of r line
    → IfSome read (λ f. (line ≡ spelling f) × IsTrue (frame_fits r f))
found r line None e = tt
found r line (Some f) e = spells r line f (sym e)
