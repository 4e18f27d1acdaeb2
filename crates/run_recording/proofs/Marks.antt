-- Marks one after the other, and in any grouping.
use Rattle.std.proofs.Common.{◌≡◌, ◌∙◌, ap, refl, subst, sym, ℕ, zero, suc, ◌<◌, List, [], ◌∷◌, ◌++◌, length, take, drop, arith, slice_set, slice_index_or}
use Rattle.std.proofs.lemmas.Grind.{common_steps}
use Rattle.run_recording.specs.declared.change.Change.{Change}
use Rattle.run_recording.specs.declared.change.Change.TheVariants.{Nothing, At, All}
use Rattle.run_recording.specs.declared.mark.Mark.{Mark}
use Rattle.run_recording.specs.Columns.{ArisesFrom, AreAsBad, AreChangedBy}
use Rattle.run_recording.specs.Marks.{worse, worse_marks}

-- one more mark becomes the worse of the two
pub next_mark : (marks later : List Mark) (v : ℕ) (d e : Mark) → v < length marks → v < length later
    → slice_set (worse_marks (take v marks) (take v later) ++ drop v marks) v (worse (slice_index_or marks v d) (slice_index_or later v e))
    ≡ worse_marks (take (suc v) marks) (take (suc v) later) ++ drop (suc v) marks
next_mark [] later v d e in_marks in_later = grind (arith, common_steps)
next_mark (a ∷ marks) [] v d e in_marks in_later = grind (arith, common_steps)
next_mark (a ∷ marks) (b ∷ later) zero d e in_marks in_later = refl
next_mark (a ∷ marks) (b ∷ later) (suc v) d e in_marks in_later =
    ap (λ xs. worse a b ∷ xs) (next_mark marks later v d e (omega (arith, in_marks)) (omega (arith, in_later)))

-- the worst of three marks, in either grouping
worse_assoc : (a b c : Mark) → worse (worse a b) c ≡ worse a (worse b c)
worse_assoc a b c = grind (arith, common_steps)

pub worse_marks-assoc : (xs ys zs : List Mark) → worse_marks (worse_marks xs ys) zs ≡ worse_marks xs (worse_marks ys zs)
worse_marks-assoc [] ys zs = grind (arith, common_steps)
worse_marks-assoc (a ∷ xs) [] zs = grind (arith, common_steps)
worse_marks-assoc (a ∷ xs) (b ∷ ys) [] = grind (arith, common_steps)
worse_marks-assoc (a ∷ xs) (b ∷ ys) (c ∷ zs) =
    ap (λ m. m ∷ worse_marks (worse_marks xs ys) zs) (worse_assoc a b c) ∙ ap (λ ms. worse a (worse b c) ∷ ms) (worse_marks-assoc xs ys zs)

-- ---- later marks that are not worse

worse_same : (a : Mark) → worse a a ≡ a
worse_same a = grind (arith, common_steps)

pub as_bad_same : (xs : List Mark) → AreAsBad xs xs
as_bad_same [] = refl
as_bad_same (a ∷ xs) = ap (λ m. m ∷ worse_marks xs xs) (worse_same a) ∙ ap (λ ms. a ∷ ms) (as_bad_same xs)

-- the worst of some marks and later ones is as bad as the later ones
pub as_bad_after : (xs ys : List Mark) → AreAsBad (worse_marks xs ys) ys
as_bad_after xs ys = worse_marks-assoc xs ys ys ∙ ap (worse_marks xs) (as_bad_same ys)

-- if one of the later marks changes, only that one need be compared
pub as_bad_but_one : (xs ys : List Mark) (v : ℕ) (m d : Mark) → AreAsBad xs ys → v < length xs
    → worse_marks xs (slice_set ys v m) ≡ slice_set xs v (worse (slice_index_or xs v d) m)
as_bad_but_one [] ys v m d bad there = grind (arith, common_steps)
as_bad_but_one (a ∷ xs) [] v m d bad there = grind (arith, common_steps)
as_bad_but_one (a ∷ xs) (b ∷ ys) zero m d bad there = ap (λ ms. worse a m ∷ ms) (ap (drop 1) bad)
as_bad_but_one (a ∷ xs) (b ∷ ys) (suc v) m d bad there =
    ap (λ ms. slice_index_or ms 0 a ∷ worse_marks xs (slice_set ys v m)) bad
    ∙ ap (λ ms. a ∷ ms) (as_bad_but_one xs ys v m d (ap (drop 1) bad) (omega (arith, there)))

-- what arises from the later ones arises from the worst of both
pub arises_worse : (xs ys : List Mark) (change : Change) (marks : List Mark) → ArisesFrom ys change marks → ArisesFrom (worse_marks xs ys) change marks
arises_worse xs ys All marks h = tt
arises_worse xs ys Nothing marks h = worse_marks-assoc xs ys marks ∙ ap (worse_marks xs) h
arises_worse xs ys (At v) marks (earlier, bad, changed) = (earlier, worse_marks-assoc xs ys earlier ∙ ap (worse_marks xs) bad, changed)

-- marks that changed since those of a moment that was not worse
pub arises : (xs old new : List Mark) (change : Change) → AreAsBad xs old → AreChangedBy change old new → ArisesFrom xs change new
arises xs old new All bad changed = tt
arises xs old new Nothing bad changed = subst (AreAsBad xs) (sym changed) bad
arises xs old new (At v) bad changed = (old, bad, changed)
