-- A test on the tree neighbours is a test on all neighbours.
use Rattle.std.proofs.Common.{◌≡◌, ℕ, ◌+◌, Bool, true, false, ◌&&◌, IsTrue, List, [], ◌∷◌, filter, Contains, arith, refl, sym, ◌∙◌, ◌==◌, subst, get_or, take, ◌<◌, ◌≤◌, length}
use Rattle.std.specs.List.{list_any}
use Rattle.std.proofs.lemmas.Bool.{eq-eqb, eqb-true}
use Rattle.std.proofs.lemmas.Bool.Decides.{nat_tests}
use Rattle.std.proofs.lemmas.List.{take_all}
use Rattle.std.proofs.lemmas.List.Folds.{Any-from_list_any, list_any_at, list_any_more}
use Rattle.euler_ring.specs.Cycle.{is_on}

-- two tests that follow from each other are the same
pub same_test : (a b : Bool) → (a ≡ true → b ≡ true) → (b ≡ true → a ≡ true) → a ≡ b
same_test true b f g = sym (f refl)
same_test false true f g = g refl
same_test false false f g = refl

-- what stands at a place is on the list
pub on-from_Contains : (ts : List ℕ) (t : ℕ) → Contains ts t → is_on ts t ≡ true
on-from_Contains ts t (k, within, is) = list_any_at (λ u. u == t) ts k t within (eq-eqb (get_or ts k t) t is)

-- what fails the test is not on the list of those that pass it
pub not_on : (q : ℕ → Bool) (ns : List ℕ) (w : ℕ) → q w ≡ false → is_on (filter q ns) w ≡ false
not_on q [] w fails = refl
not_on q (n ∷ ns) w fails = grind (arith, nat_tests, not_on q ns w fails)

-- and what is on the list stands at a place
pub Contains-from_on : (ts : List ℕ) (t : ℕ) → is_on ts t ≡ true → Contains ts t
Contains-from_on ts t on =
    let (k, u, within, is, same) = Any-from_list_any (λ u. u == t) ts on in
    let e : u ≡ t = eqb-true u t same in
    (k, within, subst (λ x. get_or ts k x ≡ x) e is)

both : (a b : Bool) → (a && b) ≡ true → (a ≡ true) × (b ≡ true)
both true b h = (refl, h)
both false b h = absurd cc

-- a test of each neighbour that is on the tree is one of each tree neighbour
pub any_on : (ts ns : List ℕ) (q : ℕ → Bool) → ((w : ℕ) → IsTrue (is_on ts w) → Contains ns w)
    → list_any (λ w. is_on ts w && q w) ns ≡ list_any q ts
any_on ts ns q inside = same_test _ _
    (λ some.
    let (k, w, within, is, passes) = Any-from_list_any (λ w. is_on ts w && q w) ns some in
    let (on, good) = both (is_on ts w) (q w) passes in
    let (j, there, same) = Contains-from_on ts w on in
    list_any_at q ts j w there (rw same good))
    (λ some.
    let (j, t, there, is, passes) = Any-from_list_any q ts some in
    let on = on-from_Contains ts t (j, there, is) in
    let (k, within, same) = inside t on in
    list_any_at (λ w. is_on ts w && q w) ns k t within (rw (same, on) passes))

-- so a loop over all neighbours has its answer if it finds one, and if it found none
pub one_on : (ts ns : List ℕ) (q : ℕ → Bool) (k : ℕ) → ((w : ℕ) → IsTrue (is_on ts w) → Contains ns w) → k < length ns
    → true ≡ (is_on ts (get_or ns k 0) && q (get_or ns k 0)) → true ≡ list_any q ts
one_on ts ns q k inside within passes = sym (list_any_at (λ w. is_on ts w && q w) ns k 0 within (sym passes)) ∙ any_on ts ns q inside

pub none_on : (ts ns : List ℕ) (q : ℕ → Bool) (k : ℕ) → ((w : ℕ) → IsTrue (is_on ts w) → Contains ns w) → length ns ≤ k
    → list_any (λ w. is_on ts w && q w) (take k ns) ≡ false → false ≡ list_any q ts
none_on ts ns q k inside past none =
    let whole : take k ns ≡ ns = take_all k ns past in
    let found : list_any (λ w. is_on ts w && q w) ns ≡ false = rw whole at none in
    sym found ∙ any_on ts ns q inside

-- if none before this one passes, and this one does not, none so far passes
pub none_more : (p : ℕ → Bool) (ns : List ℕ) (k : ℕ) → k < length ns → list_any p (take k ns) ≡ false → false ≡ p (get_or ns k 0)
    → list_any p (take (k + 1) ns) ≡ false
none_more p ns k within none fails = list_any_more p ns k 0 within ∙ rw (none, ← fails) refl

-- a test of each neighbour that passes another test is one of those that pass it
pub any_passing : (p q : ℕ → Bool) (ns : List ℕ) → list_any (λ w. p w && q w) ns ≡ list_any q (filter p ns)
any_passing p q [] = refl
any_passing p q (n ∷ ns) = grind (arith, nat_tests, any_passing p q ns)

pub one_passing : (p q : ℕ → Bool) (ns : List ℕ) (k : ℕ) → k < length ns → true ≡ (p (get_or ns k 0) && q (get_or ns k 0))
    → true ≡ list_any q (filter p ns)
one_passing p q ns k within passes = sym (list_any_at (λ w. p w && q w) ns k 0 within (sym passes)) ∙ any_passing p q ns

pub none_passing : (p q : ℕ → Bool) (ns : List ℕ) (k : ℕ) → length ns ≤ k → list_any (λ w. p w && q w) (take k ns) ≡ false
    → false ≡ list_any q (filter p ns)
none_passing p q ns k past none =
    let whole : take k ns ≡ ns = take_all k ns past in
    let found : list_any (λ w. p w && q w) ns ≡ false = rw whole at none in
    sym found ∙ any_passing p q ns
