-- Small examples of lines, of half lines, and of what a reader keeps.
use Rattle.std.proofs.Common.{◌≡◌, ℕ, codes, true, false, List, [], ◌∷◌, ◌++◌, length, map, refl, ap, sym, subst, arith}
use Rattle.byte_lines.specs.Lines.{newline, HasNoNewline, lines_after, half_after, whole_lines, half_line}
use Rattle.byte_lines.specs.Kept.{kept, kept_more, StandsAfter, ReadsOn}
use Rattle.byte_lines.proofs.Cutting.{reads_on}

abbrev text : List ℕ
text = codes "ab" ++ newline ∷ newline ∷ codes "c"

-- an empty line is a line, and what no newline ended is none
lines-two : whole_lines text ≡ codes "ab" ∷ [] ∷ []
lines-two = refl

half-last : half_line text ≡ codes "c"
half-last = refl

half_not-before_newline : ¬ (half_line (codes "c" ++ newline ∷ []) ≡ codes "c")
half_not-before_newline = λ e. grind (arith, e)

-- the first line goes on from the half line that came before
lines-after : lines_after (codes "ab") (codes "c" ++ newline ∷ codes "d") ≡ codes "abc" ∷ []
lines-after = refl

half-after : half_after (codes "ab") (codes "c" ++ newline ∷ codes "d") ≡ codes "d"
half-after = refl

half-longer : half_after (codes "ab") (codes "c") ≡ codes "abc"
half-longer = refl

-- a carriage return ends no line
not_ended-by_return : whole_lines (codes "ab" ++ 13 ∷ codes "c") ≡ []
not_ended-by_return = refl

no_newline : HasNoNewline (codes "ab")
no_newline = grind arith

no_newline_not : ¬ HasNoNewline (newline ∷ [])
no_newline_not = λ h. grind (arith, h)

-- with room for two bytes a line of two is kept whole; of one of three its first two are, and that
-- there are more
kept-whole : kept 2 (codes "ab") ≡ record { first = codes "ab"; is_long = false }
kept-whole = refl

kept-long : kept 2 (codes "abc") ≡ record { first = codes "ab"; is_long = true }
kept-long = refl

kept-more : kept_more 2 (kept 2 (codes "a")) (codes "bc") ≡ kept 2 (codes "abc")
kept-more = refl

kept-no_more : kept_more 2 (kept 2 (codes "abc")) [] ≡ kept 2 (codes "abc")
kept-no_more = refl

stands : StandsAfter 2 text (kept 2 (codes "c"))
stands = refl

stands_not : ¬ StandsAfter 2 text (kept 2 (codes "ab"))
stands_not = λ e. grind (arith, e)

-- what a reader with room for two bytes keeps of `ab` it keeps of no other half line
full-half : (half : List ℕ) → kept 2 (codes "ab") ≡ kept 2 half → half ≡ codes "ab"
full-half [] was = absurd (grind (arith, ap (λ k. k.first) was))
full-half (x ∷ []) was = absurd (grind (arith, ap (λ k. k.first) was))
full-half (x ∷ y ∷ []) was = sym (ap (λ k. k.first) was)
full-half (x ∷ y ∷ z ∷ half) was = absurd (grind (arith, ap (λ k. k.is_long) was))

-- it kept `ab`, and now two lines end and `d` comes: it has said the line of three bytes, and then the empty one
abbrev more : List ℕ
more = codes "c" ++ newline ∷ newline ∷ codes "d"

reads-lines : ReadsOn 2 length (kept 2 (codes "ab")) (kept 2 (codes "d")) more (3 ∷ 0 ∷ [])
reads-lines = reads_on 2 length (kept 2 (codes "ab")) (kept 2 (codes "d")) more (3 ∷ 0 ∷ []) (record {
  half = λ half was. subst (λ h. kept 2 (codes "d") ≡ kept 2 (half_after h more)) (sym (full-half half was)) refl;
  lines = λ half was. subst (λ h. 3 ∷ 0 ∷ [] ≡ map length (lines_after h more)) (sym (full-half half was)) refl;
})

-- it has not read the first line without the half that came before,
reads_not-rest : ¬ ReadsOn 2 length (kept 2 (codes "ab")) (kept 2 (codes "d")) more (1 ∷ 0 ∷ [])
reads_not-rest reads = let e = (reads (codes "ab") refl).1 in grind (arith, e)

-- nor said the half line at the end,
reads_not-half : ¬ ReadsOn 2 length (kept 2 (codes "ab")) (kept 2 (codes "d")) more (3 ∷ 0 ∷ 1 ∷ [])
reads_not-half reads = let e = (reads (codes "ab") refl).1 in grind (arith, e)

-- nor does it keep what the newline ended
reads_not-ended : ¬ ReadsOn 2 length (kept 2 (codes "ab")) (kept 2 (codes "ab")) more (3 ∷ 0 ∷ [])
reads_not-ended reads = let e = ap (λ k. k.first) (reads (codes "ab") refl).0 in grind (arith, e)
