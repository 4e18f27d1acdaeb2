-- What stands over columns or in lanes, one after the other.
use Rattle.std.proofs.Common.{◌≡◌, ◌∙◌, ap, sym, refl, ℕ, suc, ◌+◌, ◌<◌, List, [], ◌∷◌, ◌++◌, length, take, map, slice_index_or, append_assoc, arith}
use Rattle.std.proofs.lemmas.List.{append-nil, length-map, length-take-le}
use Rattle.std.proofs.Math.ListN.{get_or-map}
use Rattle.std.proofs.Math.Seq.{take-suc, take-length}
use Rattle.run_picture.specs.Added.{over_each}

-- one item more
over_more : {X Y : Type 0} (over : ℕ → X → List Y) (place : ℕ) (xs : List X) (x : X)
    → over_each over place (xs ++ x ∷ []) ≡ over_each over place xs ++ over (place + length xs) x
over_more {X = X} over place [] x =
    let here : place + length {A = X} [] ≡ place = omega arith in
    append-nil (over place x) ∙ ap (λ k. over k x) (sym here)
over_more over place (a ∷ xs) x =
    let there : suc place + length xs ≡ place + length (a ∷ xs) = omega arith in
    ap (λ ys. over place a ++ ys)
    (over_more over (suc place) xs x ∙ ap (λ k. over_each over (suc place) xs ++ over k x) there)
    ∙ sym (append_assoc (over place a) (over_each over (suc place) xs) (over (place + length (a ∷ xs)) x))

-- it goes on with the item at a place
pub over_next : {X Y : Type 0} (over : ℕ → X → List Y) (xs : List X) (place : ℕ) (d : X) (before after : List Y) → place < length xs
    → before ≡ over_each over 0 (take place xs) → after ≡ before ++ over place (slice_index_or xs place d)
    → after ≡ over_each over 0 (take (place + 1) xs)
over_next over xs place d before after within so_far added =
    let first = take place xs in
    let x = slice_index_or xs place d in
    let next : place + 1 ≡ suc place = omega arith in
    let here : 0 + length first ≡ place = omega (arith, length-take-le place xs (omega (arith, within))) in
    added ∙ ap (λ ys. ys ++ over place x) so_far
    ∙ ap (λ k. over_each over 0 first ++ over k x) (sym here)
    ∙ sym (over_more over 0 first x)
    ∙ ap (over_each over 0) (sym (take-suc xs place d within))
    ∙ ap (λ k. over_each over 0 (take k xs)) (sym next)

-- after the last item it is whole
pub over_all : {X Y : Type 0} (over : ℕ → X → List Y) (xs : List X) (place : ℕ) (now : List Y) → length xs ≡ place
    → now ≡ over_each over 0 (take place xs) → now ≡ over_each over 0 xs
over_all over xs place now all is =
    is ∙ ap (λ k. over_each over 0 (take k xs)) (sym all) ∙ ap (over_each over 0) (take-length xs)

-- after what was there before, it goes on with the item at a place
pub over_next_on : {X Y : Type 0} (over : ℕ → X → List Y) (xs : List X) (place : ℕ) (d : X) (start before after : List Y) → place < length xs
    → before ≡ start ++ over_each over 0 (take place xs) → after ≡ before ++ over place (slice_index_or xs place d)
    → after ≡ start ++ over_each over 0 (take (place + 1) xs)
over_next_on over xs place d start before after within so_far added =
    let here = over_each over 0 (take place xs) in
    let item = over place (slice_index_or xs place d) in
    added ∙ ap (λ ys. ys ++ item) so_far ∙ append_assoc start here item
    ∙ ap (λ ys. start ++ ys) (over_next over xs place d here (here ++ item) within refl refl)

-- and after the last item it is whole
pub over_all_on : {X Y : Type 0} (over : ℕ → X → List Y) (xs : List X) (place : ℕ) (start now : List Y) → length xs ≡ place
    → now ≡ start ++ over_each over 0 (take place xs) → now ≡ start ++ over_each over 0 xs
over_all_on over xs place start now all is =
    is ∙ ap (λ ys. start ++ ys) (over_all over xs place (over_each over 0 (take place xs)) all refl)

-- ---- the same of what a function says of each item

pub over_next_of : {X Y Z : Type 0} (over : ℕ → X → List Y) (f : Z → X) (zs : List Z) (place : ℕ) (d : Z) (x : X) (start before after : List Y)
    → place < length zs → x ≡ f (slice_index_or zs place d) → before ≡ start ++ over_each over 0 (take place (map f zs))
    → after ≡ before ++ over place x → after ≡ start ++ over_each over 0 (take (place + 1) (map f zs))
over_next_of over f zs place d x start before after within is so_far added =
    let there : place < length (map f zs) = rw (length-map zs f) within in
    over_next_on over (map f zs) place (f d) start before after there so_far
    (added ∙ ap (λ y. before ++ over place y) (is ∙ sym (get_or-map f zs place d)))

pub over_all_of : {X Y Z : Type 0} (over : ℕ → X → List Y) (f : Z → X) (zs : List Z) (place : ℕ) (start now : List Y) → length zs ≡ place
    → now ≡ start ++ over_each over 0 (take place (map f zs)) → now ≡ start ++ over_each over 0 (map f zs)
over_all_of over f zs place start now all is = over_all_on over (map f zs) place start now (length-map zs f ∙ all) is
