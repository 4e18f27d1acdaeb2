-- Ordered lists of marks are merged into one: two of them, and then one list for each node.
use Rattle.std.proofs.Common.{◌≡◌, ◌≢◌, ◌⊎◌, inl, inr, ℕ, zero, suc, ◌<◌, ◌≤◌, List, [], ◌∷◌, ◌++◌, refl, ap, ◌∙◌, sym, subst, arith}
use Rattle.std.proofs.lemmas.Bool.{cases_eq}
use Rattle.std.specs.List.{AllByRecursion}
use Rattle.processes.specs.Marks.{Mark, mark_moment, AreOrdered}

-- the third list has all items of the first two, each in its order
pub data Merge : List Mark → List Mark → List Mark → Type 0 where
  Neither : Merge [] [] []
  First : {x : Mark} {xs ys zs : List Mark} → Merge xs ys zs → Merge (x ∷ xs) ys (x ∷ zs)
  Second : {y : Mark} {xs ys zs : List Mark} → Merge xs ys zs → Merge xs (y ∷ ys) (y ∷ zs)

all-merged : (P : Mark → Type 0) {xs ys zs : List Mark} → Merge xs ys zs → AllByRecursion P xs → AllByRecursion P ys → AllByRecursion P zs
all-merged P Neither a b = tt
all-merged P (First m) a b = (a.0, all-merged P m a.1 b)
all-merged P (Second m) a b = (b.0, all-merged P m a b.1)

only-first : (xs : List Mark) → Merge xs [] xs
only-first [] = Neither
only-first (x ∷ xs) = First (only-first xs)

only-second : (ys : List Mark) → Merge [] ys ys
only-second [] = Neither
only-second (y ∷ ys) = Second (only-second ys)

-- two lists, merged
pub record Merged (xs ys : List Mark) : Type 0 where
  pub all : List Mark
  pub merge : Merge xs ys all
  pub ordered : AreOrdered all

later-still : (m n : ℕ) (ms : List Mark) → n ≤ m → AllByRecursion (λ later. m ≤ mark_moment later) ms → AllByRecursion (λ later. n ≤ mark_moment later) ms
later-still m n [] l a = tt
later-still m n (x ∷ ms) l a = (let f = a.0 in omega (arith, l, f), later-still m n ms l a.1)

earlier-or-not : (m n : ℕ) → (m ≤ n) ⊎ (n ≤ m)
earlier-or-not m n = grind arith

put-in : (x : Mark) (xs : List Mark) → AllByRecursion (λ later. mark_moment x ≤ mark_moment later) xs → AreOrdered xs
    → ((ys : List Mark) → AreOrdered ys → Merged xs ys) → (ys : List Mark) → AreOrdered ys → Merged (x ∷ xs) ys
put-in x xs late order rest [] o = record { all = x ∷ xs; merge = only-first (x ∷ xs); ordered = (late, order) }
put-in x xs late order rest (y ∷ ys) o = elim (earlier-or-not (mark_moment x) (mark_moment y)) [
  | inl l ↦
      let r = rest (y ∷ ys) o in record {
        all = x ∷ r.all;
        merge = First r.merge;
        ordered = (
          all-merged (λ later. mark_moment x ≤ mark_moment later) r.merge late (l, later-still (mark_moment y) (mark_moment x) ys l o.0),
          r.ordered,
        );
      }
  | inr l ↦
      let r = put-in x xs late order rest ys o.1 in record {
        all = y ∷ r.all;
        merge = Second r.merge;
        ordered = (
          all-merged (λ later. mark_moment y ≤ mark_moment later) r.merge (l, later-still (mark_moment x) (mark_moment y) xs l late) o.0,
          r.ordered,
        );
      }
]

pub merged : (xs : List Mark) → AreOrdered xs → (ys : List Mark) → AreOrdered ys → Merged xs ys
merged [] o ys p = record { all = ys; merge = only-second ys; ordered = p }
merged (x ∷ xs) o ys p = put-in x xs o.0 o.1 (merged xs o.1) ys p

-- ---- what is picked of marks

-- what is picked from each of these marks
abbrev pub picked : {Y : Type 0} → (Mark → List Y) → List Mark → List Y
picked pick [] = []
picked pick (m ∷ ms) = pick m ++ picked pick ms

-- nothing is picked from any of them
abbrev pub HaveNone : {Y : Type 0} → (Mark → List Y) → List Mark → Type 0
HaveNone pick ms = AllByRecursion (λ m. pick m ≡ []) ms

pub of-first : {Y : Type 0} (pick : Mark → List Y) {xs ys zs : List Mark} → Merge xs ys zs → HaveNone pick ys → picked pick zs ≡ picked pick xs
of-first pick Neither none = refl
of-first pick (First {x = x} m) none = ap (λ ps. pick x ++ ps) (of-first pick m none)
of-first pick (Second {zs = zs} m) none = ap (λ ps. ps ++ picked pick zs) none.0 ∙ of-first pick m none.1

pub of-second : {Y : Type 0} (pick : Mark → List Y) {xs ys zs : List Mark} → Merge xs ys zs → HaveNone pick xs → picked pick zs ≡ picked pick ys
of-second pick Neither none = refl
of-second pick (First {zs = zs} m) none = ap (λ ps. ps ++ picked pick zs) none.0 ∙ of-second pick m none.1
of-second pick (Second {y = y} m) none = ap (λ ps. pick y ++ ps) (of-second pick m none)

pub none-merged : {Y : Type 0} (pick : Mark → List Y) {xs ys zs : List Mark} → Merge xs ys zs → HaveNone pick xs → HaveNone pick ys → HaveNone pick zs
none-merged pick m a b = all-merged (λ x. pick x ≡ []) m a b

-- ---- one list for each node

-- the first n of these lists, merged: whatever is in only one of them is picked from that one;
-- whatever is in none of them is nowhere
pub record Gathered (list : ℕ → List Mark) (n : ℕ) : Type 1 where
  pub all : List Mark
  pub ordered : AreOrdered all
  pub of_one : {Y : Type 0} (pick : Mark → List Y) (k : ℕ) → k < n → ((i : ℕ) → i ≢ k → HaveNone pick (list i)) → picked pick all ≡ picked pick (list k)
  pub none : {Y : Type 0} (pick : Mark → List Y) → ((i : ℕ) → i < n → HaveNone pick (list i)) → HaveNone pick all

pub picked-none : {Y : Type 0} (pick : Mark → List Y) (ms : List Mark) → HaveNone pick ms → picked pick ms ≡ []
picked-none pick [] none = refl
picked-none pick (m ∷ ms) none = ap (λ ps. ps ++ picked pick ms) none.0 ∙ picked-none pick ms none.1

pub gathered : (list : ℕ → List Mark) → ((i : ℕ) → AreOrdered (list i)) → (n : ℕ) → Gathered list n
gathered list order zero = record { all = []; ordered = tt; of_one = λ pick k l others. absurd (omega (arith, l)); none = λ pick all. tt }
gathered list order (suc n) =
    let before = gathered list order n in
    let with-one = merged (list n) (order n) before.all before.ordered in record {
      all = with-one.all;
      ordered = with-one.ordered;
      of_one = λ pick k l others. here-or-before list n before with-one pick k l others;
      none = λ pick all.
          none-merged pick with-one.merge (all n (omega arith)) (before.none pick (λ i l. all i (omega (arith, l))));
    } where
      here-or-before : (list : ℕ → List Mark) (n : ℕ) (before : Gathered list n) (one : Merged (list n) before.all) {Y : Type 0} (pick : Mark → List Y) (k : ℕ)
          → k < suc n → ((i : ℕ) → i ≢ k → HaveNone pick (list i)) → picked pick one.all ≡ picked pick (list k)
      here-or-before list n before one pick k l others = elim (cases_eq n k) [
        | inl same ↦
            subst (λ j. picked pick one.all ≡ picked pick (list j)) same
            (of-first pick one.merge (before.none pick (λ i under. others i (λ e. absurd (omega (arith, under, e, same))))))
        | inr apart ↦
            of-second pick one.merge (others n apart)
            ∙ before.of_one pick k (let far : k ≢ n = (λ e. apart (sym e)) in grind (arith, far)) others
      ]
