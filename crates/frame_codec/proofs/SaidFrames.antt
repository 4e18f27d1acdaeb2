-- The frames that a reader gives are those of the lines that it was given, and they are few enough
-- for the room that is reserved.
use Rattle.std.proofs.Common.{◌≡◌, ℕ, ◌+◌, ◌-◌, ◌*◌, ◌/◌, ◌≤◌, min, List, [], ◌∷◌, ◌++◌, length, take, drop, map, Option, None, Some, refl, ap, sym, ◌∙◌, arith, append_assoc, append-nil}
use Rattle.std.proofs.lemmas.Grind.{common_steps}
use Rattle.std.proofs.lemmas.List.{length-append, length-take, length-drop, take_all, take-append-drop}
use Rattle.std.proofs.Math.Seq.{take-add}
use Rattle.std.specs.List.{filter_map}
use Rattle.std.specs.Option.{option_to_list, option_flatten, option_len}
use Rattle.topology.specs.declared.frame.Frame.{Frame}
use Rattle.topology.specs.declared.frame.Ranges.{Ranges}
use Rattle.byte_lines.specs.Laws.{LinesAreCut}
use Rattle.byte_lines.specs.Lines.{lines_after, half_after}
use Rattle.byte_lines.specs.Kept.{Kept, kept, Reads}
use Rattle.frame_codec.specs.Reading.{frame_of}
use Rattle.frame_codec.specs.Lines.{frames_after, ReadsFrames}
use Rattle.frame_codec.proofs.TooLong.{frame_length}
use Rattle.frame_codec.proofs.Cutting.{frames_cut}

-- what a list of lines is read as, without those that are no frames
by_map : {X Y : Type 0} (f : X → Option Y) (xs : List X) → filter_map f xs ≡ filter_map (λ y. y) (map f xs)
by_map f [] = refl
by_map f (x ∷ xs) = let rest = by_map f xs in grind (arith, common_steps, rest)

of_said : {Y : Type 0} (said : Option (Option Y)) → filter_map (λ y. y) (option_to_list said) ≡ option_to_list (option_flatten said)
of_said None = refl
of_said (Some None) = refl
of_said (Some (Some y)) = refl

len_of : {Y : Type 0} (y : Option Y) → length (option_to_list y) ≡ option_len y
len_of None = refl
len_of (Some y) = refl

module _ (r : Ranges) where
  pub said_frames : (old new : Kept) (bytes : List ℕ) (said : Option (Option Frame)) → Reads 21 (frame_of r) old new bytes (option_to_list said)
      → ReadsFrames r old new bytes (option_to_list (option_flatten said))
  said_frames old new bytes said reads = record {
    half = reads.half;
    said = λ half is. sym (by_map (frame_of r) (lines_after half bytes) ∙ ap (filter_map (λ y. y)) (sym (reads.lines half is)) ∙ of_said said);
  }

  -- each frame took 22 bytes, of which the half line may have had some
  few : (half : List ℕ) (rest : ℕ) (read : Option Frame) → frame_of r half ≡ read → 22 * option_len read + rest ≤ min 21 (length half) + (rest + 1)
  few half rest None e = grind arith
  few half rest (Some f) e = let len : length half ≡ 21 = frame_length r half f e in grind (arith, common_steps)

  first_of : (line : List ℕ) (lines : List (List ℕ))
      → length (filter_map (frame_of r) (line ∷ lines)) ≡ option_len (frame_of r line) + length (filter_map (frame_of r) lines)
  first_of line lines = grind (arith, common_steps)

  few_frames : (half text : List ℕ) → 22 * length (frames_after r half text) ≤ min 21 (length half) + length text
  few_frames half [] = grind (arith, common_steps)
  few_frames half (b ∷ text) =
      let ends = few_frames [] text in
      let goes_on = few_frames (half ++ b ∷ []) text in
      let first = few half (length text) (frame_of r half) refl in
      let split = first_of half (lines_after [] text) in
      let longer : length (half ++ b ∷ []) ≡ length half + 1 = length-append half (b ∷ []) in
      grind (arith, common_steps)

  -- bytes were read, and then more
  pub then_reads : LinesAreCut → (old now next : Kept) (front more : List ℕ) (frames : List Frame) (said : Option (Option Frame))
      → ReadsFrames r old now front frames → Reads 21 (frame_of r) now next more (option_to_list said)
      → ReadsFrames r old next (front ++ more) (frames ++ option_to_list (option_flatten said))
  then_reads cut old now next front more frames said first second =
      let further = said_frames now next more said second in
      record {
        half = λ half was. further.half (half_after half front) (first.half half was) ∙ ap (kept 21) (sym (cut.half half front more));
        said = λ half was.
            ap (λ xs. xs ++ option_to_list (option_flatten said)) (first.said half was)
            ∙ ap (λ xs. frames_after r half front ++ xs) (further.said (half_after half front) (first.half half was))
            ∙ sym (frames_cut cut r half front more);
      }

  -- the front of a piece was read, and gave no frame; then more of it
  pub piece_on : LinesAreCut → (old now next : Kept) (piece : List ℕ) (at used : ℕ) (said : Option (Option Frame)) → at ≤ length piece
      → ReadsFrames r old now (take at piece) []
      → Reads 21 (frame_of r) now next (take used (take (length piece - at) (drop at piece))) (option_to_list said)
      → ReadsFrames r old next (take (at + used) piece) (option_to_list (option_flatten said))
  piece_on cut old now next piece at used said within first second =
      let rest : take (length piece - at) (drop at piece) ≡ drop at piece =
      (let len = length-drop at piece in take_all (length piece - at) (drop at piece) (omega (arith, len))) in
      let more : Reads 21 (frame_of r) now next (take used (drop at piece)) (option_to_list said) = rw rest at second in
      rw (take-add at used piece) (then_reads cut old now next (take at piece) (take used (drop at piece)) [] said first more)

  -- the front of a piece was read, and its frames were put
  pub record HasRead (old now : Kept) (piece rest : List ℕ) (items put : List Frame) : Type 0 where
    pub front : List ℕ
    pub parts : piece ≡ front ++ rest
    pub frames : List Frame
    pub put_is : put ≡ items ++ frames
    pub reads : ReadsFrames r old now front frames

  pub none_read : (old : Kept) (piece : List ℕ) (items : List Frame) → HasRead old old piece piece items items
  none_read old piece items = record {
    front = [];
    parts = refl;
    frames = [];
    put_is = sym (append-nil items);
    reads = record { half = λ half is. is; said = λ half is. refl };
  }

  pub all_read : (old now : Kept) (piece rest : List ℕ) (items put : List Frame) → rest ≡ [] → HasRead old now piece rest items put
      → (frames : List Frame) × (put ≡ items ++ frames) × ReadsFrames r old now piece frames
  all_read old now piece rest items put none h =
      let whole : piece ≡ h.front = h.parts ∙ ap (λ xs. h.front ++ xs) none ∙ append-nil h.front in
      (h.frames, h.put_is, rw whole h.reads)

  module _ (cut : LinesAreCut) (old now next : Kept) (piece rest : List ℕ) (used : ℕ) (items put : List Frame) (said : Option (Option Frame))
      (h : HasRead old now piece rest items put) (reads : Reads 21 (frame_of r) now next (take used rest) (option_to_list said)) where
    abbrev taken : List ℕ
    taken = h.front ++ take used rest

    abbrev more : List Frame
    more = option_to_list (option_flatten said)

    reads_both : ReadsFrames r old next taken (h.frames ++ more)
    reads_both = then_reads cut old now next h.front (take used rest) h.frames said h.reads reads

    parts_on : piece ≡ taken ++ drop used rest
    parts_on =
        h.parts ∙ ap (λ xs. h.front ++ xs) (sym (take-append-drop used rest)) ∙ sym (append_assoc h.front (take used rest) (drop used rest))

    -- what a slice from there on holds
    left : take (length rest - used) (drop used rest) ≡ drop used rest
    left = let len = length-drop used rest in take_all (length rest - used) (drop used rest) (omega (arith, len))

    pub read_more : (now_put : List Frame) → now_put ≡ put ++ more → HasRead old next piece (take (length rest - used) (drop used rest)) items now_put
    read_more now_put is = record {
      front = taken;
      parts = rw left parts_on;
      frames = h.frames ++ more;
      put_is = is ∙ ap (λ xs. xs ++ more) h.put_is ∙ append_assoc items h.frames more;
      reads = reads_both;
    }

    pub room_left : (some : (half : List ℕ) × (old ≡ kept 21 half))
        → length put + option_len (option_flatten said) ≤ length items + (length old.first + length piece) / 22
    room_left some =
        let few = few_frames some.0 taken in
        let size : length piece ≡ length taken + length (drop used rest) = ap length parts_on ∙ length-append taken (drop used rest) in
        let first : length old.first ≡ min 21 (length some.0) = ap (λ (k : Kept). length k.first) some.1 ∙ length-take 21 some.0 in
        let frames : length h.frames + length more ≡ length (frames_after r some.0 taken) =
        sym (length-append h.frames more) ∙ ap length (reads_both.said some.0 some.1) in
        let before : length put ≡ length items + length h.frames = ap length h.put_is ∙ length-append items h.frames in
        let one : length more ≡ option_len (option_flatten said) = len_of (option_flatten said) in
        omega (arith, few, size, first, frames, before, one)
