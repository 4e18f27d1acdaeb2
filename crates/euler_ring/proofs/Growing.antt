-- A mask that is made one neighbour after the other: its bits are those of the first k that pass a
-- test.
use Rattle.std.proofs.Common.{◌≡◌, ◌≢◌, ℕ, ◌+◌, ◌<◌, ◌⊎◌, Bool, true, false, List, length, Option, sym, ◌∙◌, ap, subst, arith, inl, inr, take, get_or, IsTrue, Contains}
use Rattle.std.specs.Prelude.{filter}
use Rattle.std.proofs.lemmas.Bool.{cases_eq}
use Rattle.std.proofs.lemmas.Bool.Decides.{nat_tests}
use Rattle.euler_ring.specs.Cycle.{is_named, is_on, is_tree_neighbour}
use Rattle.euler_ring.specs.Mask.{has_id, ids_of}
use Rattle.std.proofs.lemmas.List.{append-nil}
use Rattle.std.proofs.lemmas.List.Elements.{filter_more, Contains-get_or}
use Rattle.euler_ring.proofs.Masks.{has_none, on_ids, on_below}
use Rattle.euler_ring.proofs.Ascending.{on-push}

abbrev pub HasPassed : ℕ → (ℕ → Bool) → List ℕ → Type 0
HasPassed ids test seen = (i : ℕ) → i < 64 → has_id ids i ≡ is_on (filter test seen) i

pub passed_more : (ids new : ℕ) (test : ℕ → Bool) (ns : List ℕ) (k : ℕ) → k < length ns → HasPassed ids test (take k ns) → test (get_or ns k 0) ≡ true → has_id new (get_or ns k 0) ≡ true →
    ((i : ℕ) → i < 64 → i ≢ get_or ns k 0 → has_id new i ≡ has_id ids i) → HasPassed new test (take (k + 1) ns)
passed_more ids new test ns k l h passes same others = λ i less.
    let more = filter_more test ns k 0 l in
    let push = on-push (filter test (take k ns)) (get_or ns k 0) i in
    let so_far = h i less in
    elim (cases_eq i (get_or ns k 0)) [
      | inl e ↦ (let there : has_id new i ≡ true = ap (has_id new) e ∙ same in rw (more, passes, push) (grind (arith, nat_tests)))
      | inr ne ↦ (let kept = others i less ne in rw (more, passes, push) (grind (arith, nat_tests)))
    ]

pub passed_over : (ids : ℕ) (test : ℕ → Bool) (ns : List ℕ) (k : ℕ) → k < length ns → HasPassed ids test (take k ns) → test (get_or ns k 0) ≡ false → HasPassed ids test (take (k + 1) ns)
passed_over ids test ns k l h fails = λ i less.
    let more = filter_more test ns k 0 l in
    rw (more, fails, append-nil) (h i less)

-- each id of the mask is on the list
abbrev pub AreAmong : ℕ → List ℕ → Type 0
AreAmong ids ns = (i : ℕ) → i < 64 → has_id ids i ≡ true → Contains ns i

pub none_among : (ns : List ℕ) → AreAmong 0 ns
none_among ns = λ i less on. absurd (let off = has_none i in grind arith)

pub among_more : (ids new : ℕ) (ns : List ℕ) (k : ℕ) → k < length ns → AreAmong ids ns → ((i : ℕ) → i < 64 → i ≢ get_or ns k 0 → has_id new i ≡ has_id ids i) → AreAmong new ns
among_more ids new ns k l h others = λ i less on. elim (cases_eq i (get_or ns k 0)) [
  | inl e ↦ subst (Contains ns) (sym e) (Contains-get_or ns k 0 l)
  | inr ne ↦ h i less (sym (others i less ne) ∙ on)
]

pub on_among : (ids : ℕ) (ns : List ℕ) → AreAmong ids ns → (w : ℕ) → IsTrue (is_on (ids_of ids) w) → Contains ns w
on_among ids ns h w on =
    let e = on_ids ids w in
    h w (on_below ids w on) (grind (arith, nat_tests))

-- what the code's two tests say of a neighbour w, whose copied parent is o
pub passes : (parent : Option ℕ) (v : ℕ) (copied : ℕ → Option ℕ) (w : ℕ) (a b : Bool) (o : Option ℕ) → a ≡ is_named parent w → b ≡ is_named o v → o ≡ copied w →
    (a ≡ true) ⊎ ((a ≡ false) × (b ≡ true)) → is_tree_neighbour parent v copied w ≡ true
passes parent v copied w a b o is_a is_b read h = let same = is_b ∙ ap (λ p. is_named p v) read in grind arith

pub fails : (parent : Option ℕ) (v : ℕ) (copied : ℕ → Option ℕ) (w : ℕ) (a b : Bool) (o : Option ℕ) → a ≡ is_named parent w → b ≡ is_named o v → o ≡ copied w →
    a ≡ false → b ≡ false → is_tree_neighbour parent v copied w ≡ false
fails parent v copied w a b o is_a is_b read no_a no_b = let same = is_b ∙ ap (λ p. is_named p v) read in grind arith
