-- The nearest among the neighbours that were looked at so far.
use Rattle.std.proofs.Common.{◌≡◌, ℕ, ◌+◌, ◌<◌, ◌≤◌, min, Bool, true, false, List, [], ◌∷◌, ◌++◌, Some, refl, sym, ◌∙◌, ap, subst, arith, append_assoc, nat_le, suc, length, get_or, Contains, take}
use Rattle.std.specs.Prelude.{find}
use Rattle.std.specs.List.{list_all, AllByRecursion}
use Rattle.std.proofs.lemmas.Bool.Decides.{nat_tests}
use Rattle.std.proofs.lemmas.List.{take_more, take_all}
use Rattle.std.proofs.lemmas.List.Elements.{Contains-get_or}
use Rattle.bfs_tree.specs.Step.{least, has_least_copy, new_distance, new_parent}

module _ (copied : ℕ → ℕ) where
  -- p has the least copy among those seen, and stands before all others with it
  pub record IsFirstLeast (seen : List ℕ) (p : ℕ) : Type 0 where
    pub before : List ℕ
    pub after : List ℕ
    pub split : seen ≡ before ++ p ∷ after
    pub further : AllByRecursion (λ u. copied p < copied u) before
    pub no_nearer : AllByRecursion (λ u. copied p ≤ copied u) after

  all-append : (P : ℕ → Type 0) (xs ys : List ℕ) → AllByRecursion P xs → AllByRecursion P ys → AllByRecursion P (xs ++ ys)
  all-append P [] ys a b = b
  all-append P (x ∷ xs) ys a b = (a.0, all-append P xs ys a.1 b)

  all-above : (low high : ℕ) (xs : List ℕ) → low < high → AllByRecursion (λ u. high ≤ copied u) xs → AllByRecursion (λ u. low < copied u) xs
  all-above low high [] l a = tt
  all-above low high (x ∷ xs) l a = (omega (arith, a.0), all-above low high xs l a.1)

  all-loose : (low : ℕ) (xs : List ℕ) → AllByRecursion (λ u. low < copied u) xs → AllByRecursion (λ u. low ≤ copied u) xs
  all-loose low [] a = tt
  all-loose low (x ∷ xs) a = (omega (arith, a.0), all-loose low xs a.1)

  -- one more neighbour that is nearer takes the place
  nearer : (seen : List ℕ) (p w : ℕ) → IsFirstLeast seen p → copied w < copied p → IsFirstLeast (seen ++ w ∷ []) w
  nearer seen p w h l = record {
    before = seen;
    after = [];
    split = refl;
    further = subst (λ xs. AllByRecursion (λ u. copied w < copied u) xs) (sym h.split)
        (all-append _ h.before (p ∷ h.after) (all-above (copied w) (copied p) h.before l (all-loose (copied p) h.before h.further)) (l, all-above (copied w) (copied p) h.after l h.no_nearer));
    no_nearer = tt;
  }

  -- one more that is no nearer changes nothing
  no-nearer : (seen : List ℕ) (p w : ℕ) → IsFirstLeast seen p → copied p ≤ copied w → IsFirstLeast (seen ++ w ∷ []) p
  no-nearer seen p w h l = record {
    before = h.before;
    after = h.after ++ w ∷ [];
    split = ap (λ xs. xs ++ w ∷ []) h.split ∙ append_assoc h.before (p ∷ h.after) (w ∷ []);
    further = h.further;
    no_nearer = all-append _ h.after (w ∷ []) h.no_nearer (l, tt);
  }

  -- alone, the first is the nearest
  pub alone : (first : ℕ) → IsFirstLeast (first ∷ []) first
  alone first = record { before = []; after = []; split = refl; further = tt; no_nearer = tt }

  longer : (first : ℕ) (rest : List ℕ) (i p : ℕ) → i < length rest → IsFirstLeast ((first ∷ take i rest) ++ get_or rest i 0 ∷ []) p → IsFirstLeast (first ∷ take (i + 1) rest) p
  longer first rest i p l h = subst (λ xs. IsFirstLeast (first ∷ xs) p) (sym (take_more rest i 0 l)) h

  -- one more of the rest, with its copy d: it takes the place, or it does not
  pub turned_nearer : (first : ℕ) (rest : List ℕ) (i p d : ℕ) → i < length rest → IsFirstLeast (first ∷ take i rest) p → d ≡ copied (get_or rest i 0) → d < copied p → IsFirstLeast (first ∷ take (i + 1) rest) (get_or rest i 0)
  turned_nearer first rest i p d l h read less = longer first rest i _ l (nearer _ p _ h (omega arith))

  pub turned_no_nearer : (first : ℕ) (rest : List ℕ) (i p d : ℕ) → i < length rest → IsFirstLeast (first ∷ take i rest) p → d ≡ copied (get_or rest i 0) → copied p ≤ d → IsFirstLeast (first ∷ take (i + 1) rest) p
  turned_no_nearer first rest i p d l h read more = longer first rest i _ l (no-nearer _ p _ h (omega arith))

  -- ---- the end

  least-split : (n p : ℕ) (before after : List ℕ) → AllByRecursion (λ u. copied p < copied u) before → AllByRecursion (λ u. copied p ≤ copied u) after → least n copied (before ++ p ∷ after) ≡ min (copied p) n
  least-split n p [] [] a b = refl
  least-split n p [] (x ∷ xs) a b = omega (arith, b.0, least-split n p [] xs tt b.1)
  least-split n p (x ∷ xs) after a b = omega (arith, a.0, least-split n p xs after a.1 b)

  not-least : (p u : ℕ) (before after : List ℕ) → copied p < copied u → has_least_copy copied (before ++ p ∷ after) u ≡ false
  not-least p u [] after l = grind (arith, nat_tests)
  not-least p u (x ∷ xs) after l = let rest = not-least p u xs after l in grind (arith, nat_tests)

  is-least : (p : ℕ) (xs : List ℕ) → AllByRecursion (λ u. copied p ≤ copied u) xs → list_all (λ u. nat_le (copied p) (copied u)) xs ≡ true
  is-least p [] a = refl
  is-least p (x ∷ xs) a = let rest = is-least p xs a.1 in let one = a.0 in grind (arith, nat_tests)

  find-split : (test : ℕ → Bool) (p : ℕ) (before after : List ℕ) → AllByRecursion (λ u. test u ≡ false) before → test p ≡ true → find test (before ++ p ∷ after) ≡ Some p
  find-split test p [] after a t = grind arith
  find-split test p (x ∷ xs) after a t = let rest = find-split test p xs after a.1 t in let one = a.0 in grind arith

  all-fail : (all : List ℕ) (p : ℕ) (front before after : List ℕ) → all ≡ front ++ p ∷ after → AllByRecursion (λ u. copied p < copied u) before → AllByRecursion (λ u. has_least_copy copied all u ≡ false) before
  all-fail all p front [] after e a = tt
  all-fail all p front (x ∷ xs) after e a = (ap (λ ys. has_least_copy copied ys x) e ∙ not-least p x front after a.0, all-fail all p front xs after e a.1)

  pub found : (seen : List ℕ) (p : ℕ) → IsFirstLeast seen p → find (has_least_copy copied seen) seen ≡ Some p
  found seen p h =
      let all : AllByRecursion (λ u. copied p ≤ copied u) seen = subst (λ xs. AllByRecursion (λ u. copied p ≤ copied u) xs) (sym h.split) (all-append _ h.before (p ∷ h.after) (all-loose (copied p) h.before h.further) (omega arith, h.no_nearer)) in
      ap (λ xs. find (has_least_copy copied seen) xs) h.split
      ∙ find-split (has_least_copy copied seen) p h.before h.after (all-fail seen p h.before h.before h.after h.split h.further) (is-least p seen all)

  pub least-found : (n : ℕ) (seen : List ℕ) (p : ℕ) → IsFirstLeast seen p → least n copied seen ≡ min (copied p) n
  least-found n seen p h = ap (λ xs. least n copied xs) h.split ∙ least-split n p h.before h.after h.further h.no_nearer

  -- the search over all gives the new distance and parent; the code's sum stops at the greatest u16
  pub searched : (n : ℕ) (all : List ℕ) (first : ℕ) (rest : List ℕ) (i p d r : ℕ) → all ≡ first ∷ rest → length rest ≤ i → IsFirstLeast (first ∷ take i rest) p → d ≡ copied p →
      n < 65536 → r ≡ min n (min (d + 1) 65535) → (r ≡ new_distance false n copied all) × (Some p ≡ new_parent false copied all)
  searched n all first rest i p d r e l h is fits made =
      let whole : IsFirstLeast all p = subst (λ xs. IsFirstLeast xs p) (ap (λ xs. first ∷ xs) (take_all i rest l) ∙ sym e) h in
      (omega (arith, least-found n all p whole), sym (found all p whole))

-- the first is among all, and so is each of the rest
pub contains_first : (all : List ℕ) (x : ℕ) (rest : List ℕ) → all ≡ x ∷ rest → Contains all x
contains_first all x rest e = subst (λ ys. Contains ys x) (sym e) (0, omega arith, refl)

pub contains_rest : (all : List ℕ) (x : ℕ) (rest : List ℕ) (i : ℕ) → all ≡ x ∷ rest → i < length rest → Contains all (get_or rest i 0)
contains_rest all x rest i e l = subst (λ ys. Contains ys (get_or rest i 0)) (sym e) (Contains-get_or (x ∷ rest) (suc i) 0 (omega arith))
