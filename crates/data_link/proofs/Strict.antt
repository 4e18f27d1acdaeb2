-- A stretch that hands over more items than a link can hold hands over one that was sent inside it
use Rattle.std.proofs.Common.{◌≡◌, ℕ, ◌+◌, ◌<◌, ◌≤◌, ◌||◌, nat_lt, zero, suc, List, [], ◌∷◌, ◌++◌, length, map, remove, Bool, true, false, refl, ap, subst, arith}
use Rattle.link_model.specs.declared.item.Item.{Item}
use Rattle.link_model.specs.declared.item.Item.TheVariants as item
use Rattle.data_link.specs.Port.{frame_of}
use Rattle.data_link.specs.Edge.{EdgeState, EdgeEvent, IsEdgeInRange, edge_step}
use Rattle.data_link.specs.Sweep.{LinkAct, Puts, Takes, Loses, Rests, act_out, act_back, list_after, Origin, Before, Sent, takes_item, takes_sent, hands_over_sent, handed_out, handed_back, IsStrictSweep, IsSweep}
use Rattle.data_link.proofs.LinkSteps.{by_test}
use Rattle.data_link.proofs.Marks.{IsMarked, marked-start, marked-after, marked-length, out-after, back-after}

-- how many of these items stood there before the stretch
abbrev pub count_before : List Origin → ℕ
count_before [] = 0
count_before (Before ∷ os) = suc (count_before os)
count_before (Sent i ∷ os) = count_before os

abbrev IsBeside : List Origin → List Item → Type 0
IsBeside os items = IsMarked (λ x. Unit {0}) os items

before-start : (items : List Item) → count_before (map (λ x. Before) items) ≡ length items
before-start [] = refl
before-start (x ∷ items) = ap suc (before-start items)

before-push : (i : ℕ) (os : List Origin) → count_before (os ++ Sent i ∷ []) ≤ count_before os
before-push i [] = omega arith
before-push i (Before ∷ os) = omega (arith, before-push i os)
before-push i (Sent j ∷ os) = before-push i os

before-remove : (os : List Origin) (i : ℕ) → count_before (remove os i) ≤ count_before os
before-remove [] zero = omega arith
before-remove [] (suc i) = omega arith
before-remove (Before ∷ os) zero = omega arith
before-remove (Sent j ∷ os) zero = omega arith
before-remove (Before ∷ os) (suc i) = omega (arith, before-remove os i)
before-remove (Sent j ∷ os) (suc i) = before-remove os i

-- each act that takes an item, and none that was sent inside, takes one that stood there before
act-before : (capacity i : ℕ) (act : LinkAct) (os : List Origin) (items : List Item) → length os ≡ length items → takes_sent act os ≡ false →
    takes_item act items + count_before (list_after capacity (Sent i) act os) ≤ count_before os
act-before capacity i Puts os items e t = by_test (λ l. 0 + count_before l ≤ count_before os) (nat_lt (length os) capacity) (os ++ Sent i ∷ []) os (λ j. omega (arith, before-push i os)) (λ j. omega arith)
act-before capacity i (Loses j) os items e t = omega (arith, before-remove os j)
act-before capacity i Rests os items e t = omega arith
act-before capacity i Takes [] [] e t = omega arith
act-before capacity i Takes [] (x ∷ items) e t = absurd (omega (arith, e))
act-before capacity i Takes (o ∷ os) [] e t = absurd (omega (arith, e))
act-before capacity i Takes (Before ∷ os) (x ∷ items) e t = omega arith
act-before capacity i Takes (Sent j ∷ os) (x ∷ items) e t = absurd cc

none-sent : {P : Type 0} (taken rest : Bool) → (taken || rest) ≡ false → (taken ≡ false → rest ≡ false → P) → P
none-sent true rest h f = absurd cc
none-sent false rest h f = f refl h

unless_false : (b : Bool) → (b ≡ false → ⊥) → b ≡ true
unless_false true f = refl
unless_false false f = absurd (f refl)

-- so a stretch of one of the two links that hands over none sent inside hands over at most those
-- that stood there before
module _ (capacity : ℕ) (act : EdgeEvent → LinkAct) (said : EdgeState → Item) (link : EdgeState → List Item)
    (link-after : (s : EdgeState) (e : EdgeEvent) → list_after capacity (said s) (act e) (link s) ≡ link (edge_step capacity s e))
    (handed : EdgeState → List EdgeEvent → ℕ) (none : (s : EdgeState) → handed s [] ≡ 0)
    (more : (s : EdgeState) (e : EdgeEvent) (es : List EdgeEvent) → handed s (e ∷ es) ≡ takes_item (act e) (link s) + handed (edge_step capacity s e) es) where
  handed-before : (i : ℕ) (s : EdgeState) (es : List EdgeEvent) (os : List Origin) → IsBeside os (link s) → hands_over_sent capacity i (map act es) os ≡ false → handed s es ≤ count_before os
  handed-before i s [] os m h = omega (arith, none s)
  handed-before i s (e ∷ es) os m h =
      let next = list_after capacity (Sent i) (act e) os in
      let beside : IsBeside next (link (edge_step capacity s e)) = subst (IsBeside next) (link-after s e) (marked-after (λ x. Unit {0}) capacity i (said s) (act e) os (link s) tt m) in
      none-sent (takes_sent (act e) os) (hands_over_sent capacity (suc i) (map act es) next) h
      (λ t r. omega (arith, more s e es, act-before capacity i (act e) os (link s) (marked-length (λ x. Unit {0}) os (link s) m) t, handed-before (suc i) (edge_step capacity s e) es next beside r))

  most-before : (s : EdgeState) (es : List EdgeEvent) → length (link s) ≤ capacity → capacity < handed s es → hands_over_sent capacity 0 (map act es) (map (λ x. Before) (link s)) ≡ true
  most-before s es fits over = unless_false (hands_over_sent capacity 0 (map act es) (map (λ x. Before) (link s)))
      (λ h. omega (arith, over, fits, before-start (link s), handed-before 0 s es (map (λ x. Before) (link s)) (marked-start (λ x. Unit {0}) (link s)) h))

pub strict-sweep : (capacity : ℕ) (s : EdgeState) (es : List EdgeEvent) → IsEdgeInRange capacity s → IsStrictSweep capacity s es → IsSweep capacity s es
strict-sweep capacity s es r w = record {
  out = most-before capacity act_out (λ x. item.Frame (frame_of x.near)) (λ x. x.out) (out-after capacity) (handed_out capacity) (λ x. refl) (λ x e rest. refl) s es r.out_fits w.out;
  back = most-before capacity act_back (λ x. item.Frame (frame_of x.far)) (λ x. x.back) (back-after capacity) (handed_back capacity) (λ x. refl) (λ x e rest. refl) s es r.back_fits w.back;
}
