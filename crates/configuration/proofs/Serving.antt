-- A world serves if its tree is shown, at most one node counts as privileged, and at most one as
-- lending.
use Rattle.std.proofs.Common.{◌≡◌, ◌∙◌, ap, sym, subst, ℕ, zero, suc, ◌+◌, ◌<◌, ◌≤◌, ◌≢◌, Bool, true, false, cond, Option, Some, None, IfSome, IsTrue, inl, inr, add-one, arith, count_by, refl, List, [], ◌∷◌, map}
use Rattle.std.proofs.lemmas.List.FromFn.{sum_by-map-range_with_len_more}
use Rattle.std.proofs.lemmas.Bool.Decides.{nat_tests}
use Rattle.std.specs.Prelude.{◌⊎◌, is_some, IsSome, nat_le}
use Rattle.std.specs.List.{range_with_len}
use Rattle.std.proofs.lemmas.Bool.{cases_Bool, cases_eq}
use Rattle.topology.specs.Network.{IsTrueParent}
use Rattle.topology.specs.Tree.{parent_of}
use Rattle.topology.specs.Laws.{DistanceIs, ParentIs, EachTree}
use Rattle.run_model.specs.World.{World, IsWorldInRange}
use Rattle.run_model.specs.Privilege.{is_privileged, is_lending}
use Rattle.run_model.specs.NodeCounts.{privileged_count, lending_count}
use Rattle.run_model.specs.Headline.{IsServing}
use Rattle.configuration.specs.TreeShown.{IsTreeShown}

-- ---- the count is at most one if any two that count are the same

-- how many numbers below n pass the test
abbrev counted : (ℕ → Bool) → ℕ → ℕ
counted p n = count_by p (range_with_len 0 n)

same-map : (xs : List ℕ) → map (λ i. i) xs ≡ xs
same-map [] = refl
same-map (x ∷ xs) = ap (λ ys. x ∷ ys) (same-map xs)

-- one more number counts if it passes the test
count-more : (p : ℕ → Bool) (n : ℕ) → counted p (n + 1) ≡ counted p n + cond (p n) 1 0
count-more p n =
    ap (count_by p) (sym (same-map (range_with_len 0 (n + 1))))
    ∙ sum_by-map-range_with_len_more (λ y. cond (p y) 1 0) (λ i. i) 0 n n (omega arith)
    ∙ ap (λ xs. count_by p xs + cond (p n) 1 0) (same-map (range_with_len 0 n))

counted-next : (p : ℕ → Bool) (n : ℕ) → counted p (suc n) ≡ counted p n + cond (p n) 1 0
counted-next p n = ap (counted p) (sym (add-one n)) ∙ count-more p n

counted-yes : (p : ℕ → Bool) (n : ℕ) → p n ≡ true → counted p (suc n) ≡ counted p n + 1
counted-yes p n passes = counted-next p n ∙ ap (λ b. counted p n + cond b 1 0) passes

counted-no : (p : ℕ → Bool) (n : ℕ) → p n ≡ false → counted p (suc n) ≡ counted p n
counted-no p n fails = counted-next p n ∙ ap (λ b. counted p n + cond b 1 0) fails ∙ omega arith

last-or-below : (u n : ℕ) → u < suc n → (u ≡ n) ⊎ (u < n)
last-or-below u n h = grind arith

some-counted : (p : ℕ → Bool) (n u : ℕ) → u < n → p u ≡ true → 1 ≤ counted p n
some-counted p zero u below holds = absurd (omega arith)
some-counted p (suc n) u below holds =
    elim (last-or-below u n below) [
      | inl e ↦ omega (arith, counted-yes p n (subst (λ x. p x ≡ true) e holds))
      | inr less ↦ elim (cases_Bool (p n)) [
        | inl passes ↦ omega (arith, counted-yes p n passes)
        | inr fails ↦ omega (arith, counted-no p n fails, some-counted p n u less holds)
      ]
    ]

none-counted : (p : ℕ → Bool) (n : ℕ) → ((u : ℕ) → u < n → p u ≡ false) → counted p n ≡ 0
none-counted p zero none = refl
none-counted p (suc n) none = counted-no p n (none n (omega arith)) ∙ none-counted p n (λ u below. none u (omega arith))

-- any two that pass are the same
abbrev pub AreOne : (ℕ → Bool) → ℕ → Type 0
AreOne p n = (u v : ℕ) → u < n → v < n → IsTrue (p u) → IsTrue (p v) → u ≡ v

last-alone : (p : ℕ → Bool) (n u : ℕ) → counted p (suc n) ≤ 1 → u < n → p u ≡ true → p n ≡ true → ⊥
last-alone p n u few below one last = omega (arith, counted-yes p n last, some-counted p n u below one)

fewer-before : (p : ℕ → Bool) (n : ℕ) → counted p (suc n) ≤ 1 → counted p n ≤ 1
fewer-before p n few =
    elim (cases_Bool (p n)) [ inl passes ↦ omega (arith, counted-yes p n passes) | inr fails ↦ omega (arith, counted-no p n fails) ]

pub few-are_one : (p : ℕ → Bool) (n : ℕ) → counted p n ≤ 1 → AreOne p n
few-are_one p zero few u v a b one two = absurd (omega arith)
few-are_one p (suc n) few u v a b one two =
    elim (last-or-below u n a) [
      | inl e ↦ elim (last-or-below v n b) [
        | inl f ↦ e ∙ sym f
        | inr less ↦ absurd (last-alone p n v few less two (subst (λ x. p x ≡ true) e one))
      ]
      | inr fewer ↦ elim (last-or-below v n b) [
        | inl f ↦ absurd (last-alone p n u few fewer one (subst (λ x. p x ≡ true) f two))
        | inr less ↦ few-are_one p n (fewer-before p n few) u v fewer less one two
      ]
    ]

other-fails : (p : ℕ → Bool) (n u : ℕ) → AreOne p (suc n) → u < n → p n ≡ true → p u ≡ false
other-fails p n u one below last =
    elim (cases_Bool (p u)) [
      | inl passes ↦ let same : u ≡ n = one u n (omega arith) (omega arith) passes last in absurd (omega arith)
      | inr fails ↦ fails
    ]

pub one-are_few : (p : ℕ → Bool) (n : ℕ) → AreOne p n → counted p n ≤ 1
one-are_few p zero one = omega arith
one-are_few p (suc n) one =
    let before : AreOne p n = λ u v a b. one u v (omega arith) (omega arith) in
    elim (cases_Bool (p n)) [
      | inl passes ↦ omega (arith, counted-yes p n passes, none-counted p n (λ u below. other-fails p n u one below passes))
      | inr fails ↦ omega (arith, counted-no p n fails, one-are_few p n before)
    ]

-- ---- the tree that is shown is the tree

if-some : {X : Type 0} (P : X → Type 0) (o : Option X) → ((x : X) → o ≡ Some x → P x) → IfSome o P
if-some P None f = tt
if-some P (Some x) f = f x refl

some-or-none : {X : Type 0} (o : Option X) → ((x : X) × (o ≡ Some x)) ⊎ (o ≡ None)
some-or-none None = inr refl
some-or-none (Some x) = inl (x, refl)

no-some : {X : Type 0} (o : Option X) → o ≡ None → IsSome o → ⊥
no-some None none there = grind arith
no-some (Some x) none there = absurd (cc)

module _ (distances : DistanceIs) (parents : ParentIs) (known : EachTree) (w : World) (ok : IsWorldInRange w) where
  pub shown-serves : IsTreeShown w → privileged_count w ≤ 1 → lending_count w ≤ 1 → IsServing w
  shown-serves shown privileged lending = record {
    distances = λ v node. (distances w.net v (w.node v).distance ok.network node).0 (sym (shown v node).0);
    no_parent = ap is_some ((shown w.net.root ok.network.limits.root_in).1 ∙ (known w.net ok.network).root_parent);
    some_parent = λ v node other. let p = (known w.net ok.network).parent v node other in ap is_some ((shown v node).1 ∙ p.1);
    parents = λ v node.
        if-some (IsTrueParent w.net v) (w.node v).parent (λ p e. (parents w.net v p ok.network node).0 (sym (shown v node).1 ∙ e));
    one_privileged = few-are_one (is_privileged w) w.net.nodes privileged;
    one_lending = few-are_one (is_lending w) w.net.nodes lending;
  }

  parent-shown : IsServing w → (v : ℕ) → v < w.net.nodes → (w.node v).parent ≡ parent_of w.net v
  parent-shown serving v node =
      elim (some-or-none (w.node v).parent) [
        | inl some ↦
            let there : IsTrueParent w.net v some.0 = subst (λ o. IfSome o (IsTrueParent w.net v)) some.1 (serving.parents v node) in
            some.1 ∙ sym ((parents w.net v some.0 ok.network node).1 there)
        | inr none ↦ elim (cases_eq v w.net.root) [
          | inl root ↦ none ∙ sym (ap (parent_of w.net) root ∙ (known w.net ok.network).root_parent)
          | inr other ↦ absurd (no-some (w.node v).parent none (serving.some_parent v node other))
        ]
      ]

  pub serving-shows : IsServing w → IsTreeShown w
  serving-shows serving v node =
      (sym ((distances w.net v (w.node v).distance ok.network node).1 (serving.distances v node)), parent-shown serving v node)

  pub serving-counts : IsServing w → (privileged_count w ≤ 1) × (lending_count w ≤ 1)
  serving-counts serving = (one-are_few (is_privileged w) w.net.nodes serving.one_privileged, one-are_few (is_lending w) w.net.nodes serving.one_lending)

-- ---- at most one, as a test

pub few-yes : (a b : ℕ) → a ≡ b → nat_le a 1 ≡ true → b ≤ 1
few-yes a b same passes = grind (arith, nat_tests)

pub few-is : (a b : ℕ) → a ≡ b → b ≤ 1 → nat_le a 1 ≡ true
few-is a b same few = grind (arith, nat_tests)
