-- Small examples of what a reader of frames keeps and says, and ones that fail.
use Rattle.std.proofs.Common.{◌≡◌, ℕ, codes, List, [], ◌∷◌, ◌++◌, None, Some, refl, ap, sym, subst, arith}
use Rattle.std.proofs.lemmas.List.{append-nil}
use Rattle.byte_lines.specs.Lines.{newline, half_after}
use Rattle.byte_lines.specs.Kept.{kept}
use Rattle.frame_codec.specs.Spelling.{digit, digits, parent_number, spelling}
use Rattle.frame_codec.specs.Reading.{digit_value, number_from, parent_of, candidate, frame_of}
use Rattle.frame_codec.specs.Lines.{frames_after, good_lines, ReadsFrames, ReadsOn}
use Rattle.frame_codec.proofs.Rows.{frame, line, first}

-- digits are hexadecimal, and lower case
digit-nine : digit 9 ≡ 57
digit-nine = refl

digit-ten : digit 10 ≡ 97
digit-ten = refl

digits-high-first : digits 4660 ≡ codes "1234"
digits-high-first = refl

value-letter : digit_value 102 ≡ 15
value-letter = refl

number-inside : number_from (codes "F01a4") 1 ≡ 420
number-inside = refl

number_not-shifted : ¬ (number_from (codes "F01a4") 0 ≡ 420)
number_not-shifted e = omega (arith, e)

-- no parent is ffff, and only that
parent-none : parent_number None ≡ 65535
parent-none = refl

parent-spelled : parent_number (Some 7) ≡ 7
parent-spelled = refl

parent-read : parent_of 65535 ≡ None
parent-read = refl

parent_not-zero : parent_of 0 ≡ Some 0
parent_not-zero = refl

-- the five numbers of a line stand in this order
fields-in-order : candidate (codes "F00010002000300040005") ≡ frame 1 2 3 (Some 4) 5
fields-in-order = refl

-- a line with a small `f` has a candidate too, which it does not spell
candidate-unspelled : candidate (codes "f00010002000300040005") ≡ frame 1 2 3 (Some 4) 5
candidate-unspelled = refl

-- no candidate has ffff as its parent
candidate_not-parent : ¬ (candidate (codes "F000100020003ffff0005") ≡ frame 1 2 3 (Some 65535) 5)
candidate_not-parent e = let parent = ap (λ f. f.payload.parent) e in grind (arith, parent)

-- a half line goes on in the next piece; without its first half the second is no frame
after-half : frames_after line (codes "F00000000000") (codes "10000000c" ++ newline ∷ []) ≡ first ∷ []
unfolding frame_of spelling
after-half = refl

after_not-without : frames_after line [] (codes "10000000c" ++ newline ∷ []) ≡ []
unfolding frame_of spelling
after_not-without = refl

-- a reader that kept the first half says the frame that this piece ends, once
reads-on : ReadsOn line (kept 21 []) (kept 21 []) [] []
reads-on text stands = (rw (append-nil text) stands, rw (append-nil text) (sym (append-nil (good_lines line text))))

reads_not-a-frame : ¬ ReadsOn line (kept 21 []) (kept 21 []) [] (first ∷ [])
reads_not-a-frame reads = let e = (reads [] refl).1 in grind (arith, e)

-- a reader that kept nothing keeps the half line that came
empty-half : (half : List ℕ) → kept 21 [] ≡ kept 21 half → half ≡ []
empty-half [] was = refl
empty-half (b ∷ half) was = let e = ap (λ k. k.first) was in absurd (grind (arith, e))

frames-read : ReadsFrames line (kept 21 []) (kept 21 (codes "F0")) (codes "F0") []
frames-read = record {
  half = λ half was. subst (λ h. kept 21 (codes "F0") ≡ kept 21 (half_after h (codes "F0"))) (sym (empty-half half was)) refl;
  said = λ half was. subst (λ h. [] ≡ frames_after line h (codes "F0")) (sym (empty-half half was)) refl;
}

frames_not-made : ¬ ReadsFrames line (kept 21 []) (kept 21 []) [] (first ∷ [])
frames_not-made reads = let e = reads.said [] refl in grind (arith, e)

frames_not-forgotten : ¬ ReadsFrames line (kept 21 []) (kept 21 []) (codes "F0") []
frames_not-forgotten reads = let e = ap (λ k. k.first) (reads.half [] refl) in grind (arith, e)
