-- Edges that join and go: which edge it is, and what the others are.
use Rattle.std.proofs.Common.{◌≡◌, ◌≢◌, ◌∙◌, ℕ, zero, suc, ◌<◌, Bool, true, false, not, ◌||◌, ◌&&◌, ◌==◌, List, [], ◌∷◌, ◌++◌, length, get_or, refl, sym, ap, arith, nat_lt, inl, inr}
use Rattle.std.specs.Prelude.{Option, Some, None, is_some}
use Rattle.std.specs.List.{list_any, filter, insert, remove, position, position_or_len, range_with_len}
use Rattle.std.proofs.Math.Path.{fun_ext}
use Rattle.std.proofs.lemmas.Bool.{cases_Bool, false≢true, or_parts}
use Rattle.std.proofs.lemmas.Bool.Decides.{nat_tests}
use Rattle.std.proofs.lemmas.List.Folds.{list_any-append}
use Rattle.std.proofs.lemmas.List.Quantifiers.{position-Some}
use Rattle.topology.specs.Network.{Network, Edge, are_joined, is_between, is_same_edge, has_double_edge, neighbours_of, joined_net, edges_without, parted_net}
use Rattle.topology.specs.Change.{without_place}
use Rattle.topology.proofs.Joined.{or_comm}
use Rattle.topology.proofs.SearchByLevels.{between_cases}

-- an edge between two nodes is the same one as any other edge between them
between_same : (u v : ℕ) (e f : Edge) → is_between u v e ≡ true → is_same_edge e f ≡ is_between u v f
between_same u v e f h = elim (between_cases u v e h) [
  | inl q ↦ rw (q.0, q.1) refl
  | inr q ↦ rw (q.0, q.1) (or_comm (f.0 == v && f.1 == u) (f.0 == u && f.1 == v))
]

any_same : (u v : ℕ) (e : Edge) (es : List Edge) → is_between u v e ≡ true → list_any (is_same_edge e) es ≡ are_joined es u v
any_same u v e [] h = refl
any_same u v e (f ∷ es) h = rw (between_same u v e f h, any_same u v e es h) refl

-- if no edge joins the two, all edges stay
without_none : (es : List Edge) (u v : ℕ) → are_joined es u v ≡ false → edges_without es u v ≡ es
without_none [] u v h = refl
without_none (e ∷ es) u v h = let (first, rest) = or_parts (is_between u v e) (are_joined es u v) h in rw (first, without_none es u v rest) refl

joined_at : (es : List Edge) (u v i : ℕ) (d : Edge) → i < length es → is_between u v (get_or es i d) ≡ true → are_joined es u v ≡ true
joined_at [] u v i d within h = absurd (omega arith)
joined_at (e ∷ es) u v zero d within h = rw h refl
joined_at (e ∷ es) u v (suc i) d within h = elim (cases_Bool (is_between u v e)) [
  | inl here ↦ rw here refl
  | inr other ↦ rw (other, joined_at es u v i d (omega arith) h) refl
]

-- an edge that stands once goes from its place
pub without_at : (es : List Edge) (u v i : ℕ) (d : Edge) → has_double_edge es ≡ false → i < length es → is_between u v (get_or es i d) ≡ true → edges_without es u v ≡ remove es i
without_at [] u v i d once within h = absurd (omega arith)
without_at (e ∷ es) u v zero d once within h =
    let (first, rest) = or_parts (list_any (is_same_edge e) es) (has_double_edge es) once in
    let none : are_joined es u v ≡ false = sym (any_same u v e es h) ∙ first in
    rw (h, without_none es u v none) refl
without_at (e ∷ es) u v (suc i) d once within h =
    let (first, rest) = or_parts (list_any (is_same_edge e) es) (has_double_edge es) once in
    elim (cases_Bool (is_between u v e)) [
      | inl here ↦ absurd (false≢true (sym first ∙ any_same u v e es here ∙ joined_at es u v i d (omega arith) h))
      | inr other ↦ rw (other, without_at es u v i d rest (omega arith) h) refl
    ]

-- an edge that stands once and goes is one less
pub length_without : (es : List Edge) (u v : ℕ) → has_double_edge es ≡ false → are_joined es u v ≡ true → length es ≡ suc (length (edges_without es u v))
length_without [] u v once joined = absurd (false≢true joined)
length_without (e ∷ es) u v once joined =
    let (first, rest) = or_parts (list_any (is_same_edge e) es) (has_double_edge es) once in
    elim (cases_Bool (is_between u v e)) [
      | inl here ↦
          (let none : are_joined es u v ≡ false = sym (any_same u v e es here) ∙ first in
          rw (here, without_none es u v none) refl)
      | inr other ↦ (let later : are_joined es u v ≡ true = rw other at joined in rw other (ap suc (length_without es u v rest later)))
    ]

-- the place that was found
joined_is_within : (es : List Edge) (u v : ℕ) → are_joined es u v ≡ nat_lt (position_or_len (is_between u v) es) (length es)
joined_is_within [] u v = refl
joined_is_within (e ∷ es) u v = let rest = joined_is_within es u v in elim (cases_Bool (is_between u v e)) [
  | inl here ↦ rw here (grind (arith, nat_tests))
  | inr other ↦ rw other (grind (arith, nat_tests, rest))
]

pub place_none : (es : List Edge) (u v : ℕ) → None ≡ position (is_between u v) es → are_joined es u v ≡ false
place_none es u v h = let is = joined_is_within es u v in grind (arith, nat_tests)

-- an edge joins the two if it has a place
pub joined_if_placed : (es : List Edge) (u v : ℕ) (r : Option ℕ) → r ≡ position (is_between u v) es → is_some r ≡ are_joined es u v
joined_if_placed es u v (Some i) h = let p = position-Some (is_between u v) es i (0, 0) (sym h) in sym (joined_at es u v i (0, 0) p.0 p.1)
joined_if_placed es u v None h = sym (place_none es u v h)

pub record IsPlaceOf (es : List Edge) (u v place : ℕ) : Type 0 where
  pub within : place < length es
  pub joined : are_joined es u v ≡ true
  pub removed : edges_without es u v ≡ remove es place

pub place_found : (es : List Edge) (u v place : ℕ) → has_double_edge es ≡ false → Some place ≡ position (is_between u v) es → IsPlaceOf es u v place
place_found es u v place once h =
    let p = position-Some (is_between u v) es place (0, 0) (sym h) in
    record { within = p.0; joined = joined_at es u v place (0, 0) p.0 p.1; removed = without_at es u v place (0, 0) once p.0 p.1 }

-- what goes from its place and is put back there was never gone
pub put_back : {X : Type 0} (xs : List X) (i : ℕ) (d : X) → i < length xs → insert (remove xs i) i (get_or xs i d) ≡ xs
put_back [] i d within = absurd (omega arith)
put_back (x ∷ xs) zero d within = refl
put_back (x ∷ xs) (suc i) d within = rw (put_back xs i d (omega arith)) refl

pub put_back_value : {X : Type 0} (xs : List X) (i : ℕ) (x : X) → i < length xs → x ≡ get_or xs i x → insert (remove xs i) i x ≡ xs
put_back_value xs i x within is = ap (insert (remove xs i) i) is ∙ put_back xs i x within

-- the network without the edge at its place is the parted one
pub parted_is : (net : Network) (u v place : ℕ) → IsPlaceOf net.edges u v place → without_place net place ≡ parted_net net u v
parted_is net u v place p = ap (λ es. record net { edges = es }) (sym p.removed)

-- ---- who is joined afterwards

or_nothing : (a b : Bool) → (a || (b || false)) ≡ (a || b)
or_nothing true b = refl
or_nothing false true = refl
or_nothing false false = refl

pub joined_after_join : (es : List Edge) (u v a b : ℕ) → are_joined (es ++ (u, v) ∷ []) a b ≡ (are_joined es a b || is_between a b (u, v))
joined_after_join es u v a b = list_any-append (is_between a b) es ((u, v) ∷ []) ∙ or_nothing (are_joined es a b) (is_between a b (u, v))

turned : (u v a b : ℕ) → is_between u v (a, b) ≡ is_between u v (b, a)
turned u v a b = grind (arith, nat_tests)

-- an edge between a and b is between u and v if a and b are these two
ends_are : (u v a b : ℕ) (e : Edge) → is_between a b e ≡ true → is_between u v (a, b) ≡ is_between u v e
ends_are u v a b e h = elim (between_cases a b e h) [
  | inl q ↦ rw (q.0, q.1) refl
  | inr q ↦ rw (q.0, q.1) (turned u v a b)
]

goes_first : (joined here both : Bool) → (here ≡ true → both ≡ true) → (joined && not both) ≡ ((here || joined) && not both)
goes_first joined false both h = refl
goes_first true true both h = refl
goes_first false true both h = rw (h refl) refl

stays_first : (joined here both : Bool) → (here ≡ true → both ≡ false) → (here || (joined && not both)) ≡ ((here || joined) && not both)
stays_first joined false both h = refl
stays_first joined true both h = rw (h refl) refl

pub joined_after_part : (es : List Edge) (u v a b : ℕ) → are_joined (edges_without es u v) a b ≡ (are_joined es a b && not (is_between u v (a, b)))
joined_after_part [] u v a b = refl
joined_after_part (e ∷ es) u v a b = elim (cases_Bool (is_between u v e)) [
  | inl goes ↦ rw (goes, joined_after_part es u v a b) (goes_first (are_joined es a b) (is_between a b e) (is_between u v (a, b)) (λ h. ends_are u v a b e h ∙ goes))
  | inr stays ↦ rw (stays, joined_after_part es u v a b) (stays_first (are_joined es a b) (is_between a b e) (is_between u v (a, b)) (λ h. ends_are u v a b e h ∙ stays))
]

-- ---- who keeps its neighbours

same_tests : (n : ℕ) (p q : ℕ → Bool) → ((x : ℕ) → p x ≡ q x) → filter p (range_with_len 0 n) ≡ filter q (range_with_len 0 n)
same_tests n p q same = ap (λ test. filter test (range_with_len 0 n)) (fun_ext same)

not_an_end : (u v w x : ℕ) → w ≢ u → w ≢ v → is_between w x (u, v) ≡ false
not_an_end u v w x first second = grind (arith, nat_tests)

not_these : (u v w x : ℕ) → w ≢ u → w ≢ v → is_between u v (w, x) ≡ false
not_these u v w x first second = grind (arith, nat_tests)

or_none : (a b : Bool) → b ≡ false → (a || b) ≡ a
or_none true b h = refl
or_none false b h = h

and_all : (a b : Bool) → b ≡ false → (a && not b) ≡ a
and_all true b h = rw h refl
and_all false b h = refl

pub others_at_join : (net : Network) (u v w : ℕ) → w ≢ u → w ≢ v → neighbours_of (joined_net net u v) w ≡ neighbours_of net w
others_at_join net u v w first second = same_tests net.nodes (are_joined (net.edges ++ (u, v) ∷ []) w) (are_joined net.edges w)
    (λ x. joined_after_join net.edges u v w x ∙ or_none (are_joined net.edges w x) (is_between w x (u, v)) (not_an_end u v w x first second))

pub others_at_part : (net : Network) (u v w : ℕ) → w ≢ u → w ≢ v → neighbours_of (parted_net net u v) w ≡ neighbours_of net w
others_at_part net u v w first second = same_tests net.nodes (are_joined (edges_without net.edges u v) w) (are_joined net.edges w)
    (λ x. joined_after_part net.edges u v w x ∙ and_all (are_joined net.edges w x) (is_between u v (w, x)) (not_these u v w x first second))
