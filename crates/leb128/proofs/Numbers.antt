-- A number that was written is read again, a front of it is short, and what is read is spelled so.
use Rattle.std.proofs.Common.{◌≡◌, ◌∙◌, ap, sym, refl, subst, arith, ℕ, zero, suc, ◌+◌, ◌-◌, ◌*◌, ◌/◌, ◌%◌, ◌^◌, ◌<◌, ◌≤◌, ◌==◌, Bool, true, false, List, [], ◌∷◌, ◌++◌, length, Result, Ok, Err, ◌⊎◌, inl, inr, append_assoc, nat_lt, cond}
use Rattle.std.proofs.lemmas.Grind.{common_steps}
use Rattle.std.proofs.lemmas.Bool.Decides.{nat_tests}
use Rattle.std.proofs.lemmas.Bool.{cases_lt}
use Rattle.leb128.specs.declared.unread.Unread.{Unread}
use Rattle.leb128.specs.declared.unread.Unread.TheVariants.{Short, Invalid}
use Rattle.leb128.specs.Spelling.{leb128_in, leb128, in_a_row}
use Rattle.leb128.specs.Reading.{◌>>=◌, with_low, number_in, number_at, numbers_at}
use Rattle.leb128.specs.Laws.{AreWide, AreBytes, AreSpelled}

-- what fits into so many bytes and one
abbrev pub bound : ℕ → ℕ
bound zero = 128
bound (suc more) = 128 * bound more

with_low-again : (n : ℕ) → 128 ≤ n → n < 2 ^ 64 → with_low (n % 128 + 128) (n / 128) ≡ Ok n
with_low-again n high wide =
    let some : ◌≡◌ {A = Bool} (n / 128 == 0) false = grind (arith, nat_tests) in
    let below : nat_lt (n / 128) (2 ^ 57) ≡ true = grind (arith, nat_tests) in
    let same : 128 * (n / 128) + (n % 128 + 128 - 128) ≡ n = omega arith in
    rw (some, below, same) refl

-- a number of more than one byte begins with its low seven bits, and the rest has a byte less
pub number-goes_on : (more n : ℕ) → 128 ≤ n → n < bound more
    → (less : ℕ) × (more ≡ suc less) × (n / 128 < bound less) × (leb128_in more n ≡ (n % 128 + 128) ∷ leb128_in less (n / 128))
number-goes_on zero n ge lt = absurd (omega (arith, ge, lt))
number-goes_on (suc less) n ge lt =
    let many : nat_lt n 128 ≡ false = grind (arith, nat_tests) in
    (less, refl, omega (arith, lt), rw many refl)

-- one of one byte is that byte
pub number-ends : (more n : ℕ) → n < 128 → leb128_in more n ≡ n ∷ []
number-ends zero n lt = refl
number-ends (suc more) n lt = let one : nat_lt n 128 ≡ true = grind (arith, nat_tests) in rw one refl

number_in-again : (more n : ℕ) (rest : List ℕ) → n < bound more → n < 2 ^ 64
    → number_in more (leb128_in more n ++ rest) ≡ Ok (n, rest)
number_in-again zero n rest few wide =
    let one : nat_lt n 128 ≡ true = grind (arith, nat_tests) in
    rw one refl
number_in-again (suc more) n rest few wide =
    elim (cases_lt n 128) [
      | inl lt ↦
          let one : nat_lt n 128 ≡ true = grind (arith, nat_tests) in
          rw (one, one) refl
      | inr ge ↦
          let many : nat_lt n 128 ≡ false = grind (arith, nat_tests) in
          let low : nat_lt (n % 128 + 128) 128 ≡ false = grind (arith, nat_tests) in
          let high = number_in-again more (n / 128) rest (omega arith) (omega arith) in
          rw (many, low, high, with_low-again n ge wide) refl
    ]

not-nil : (xs : List ℕ) (b : ℕ) (back : List ℕ) → [] ≡ xs ++ b ∷ back → ⊥
not-nil [] b back e = absurd cc
not-nil (x ∷ xs) b back e = absurd cc

number_in-cut : (more n : ℕ) (front : List ℕ) (b : ℕ) (back : List ℕ) → leb128_in more n ≡ front ++ b ∷ back
    → number_in more front ≡ Err Short
number_in-cut more n [] b back e = refl
number_in-cut zero n (x ∷ xs) b back e = let tail : [] ≡ xs ++ b ∷ back = cc in absurd (not-nil xs b back tail)
number_in-cut (suc more) n (x ∷ xs) b back e =
    elim (cases_lt n 128) [
      | inl lt ↦
          let one : nat_lt n 128 ≡ true = grind (arith, nat_tests) in
          let e2 : n ∷ [] ≡ x ∷ (xs ++ b ∷ back) = subst (λ t. cond t (n ∷ []) ((n % 128 + 128) ∷ leb128_in more (n / 128)) ≡ x ∷ (xs ++ b ∷ back)) one e in
          let tail : [] ≡ xs ++ b ∷ back = cc in absurd (not-nil xs b back tail)
      | inr ge ↦
          let many : nat_lt n 128 ≡ false = grind (arith, nat_tests) in
          let e2 : (n % 128 + 128) ∷ leb128_in more (n / 128) ≡ x ∷ (xs ++ b ∷ back) = subst (λ t. cond t (n ∷ []) ((n % 128 + 128) ∷ leb128_in more (n / 128)) ≡ x ∷ (xs ++ b ∷ back)) many e in
          let head : n % 128 + 128 ≡ x = cc in
          let tail : leb128_in more (n / 128) ≡ xs ++ b ∷ back = cc in
          let low : nat_lt x 128 ≡ false = grind (arith, nat_tests) in
          rw (low, number_in-cut more (n / 128) xs b back tail) refl
    ]

-- a number that was read, and the bytes after it
abbrev read : ℕ → List ℕ → Result (ℕ × List ℕ) Unread
read n bytes = Ok (n, bytes)

abbrev number_of : Result (ℕ × List ℕ) Unread → ℕ
number_of (Ok x) = x.0
number_of (Err e) = 0

abbrev rest_of : Result (ℕ × List ℕ) Unread → List ℕ
rest_of (Ok x) = x.1
rest_of (Err e) = []

abbrev row : List ℕ → List ℕ → Result (List ℕ × List ℕ) Unread
row ns bytes = Ok (ns, bytes)

abbrev row_of : Result (List ℕ × List ℕ) Unread → List ℕ
row_of (Ok x) = x.0
row_of (Err e) = []

abbrev after_row : Result (List ℕ × List ℕ) Unread → List ℕ
after_row (Ok x) = x.1
after_row (Err e) = []

-- the value of a step that did not fail
pub bind_ok : {A B : Type 0} (r : Result A Unread) (f : A → Result B Unread) (y : B) → (r >>= f) ≡ Ok y
    → (x : A) × (r ≡ Ok x) × (f x ≡ Ok y)
bind_ok (Ok x) f y e = (x, refl, e)
bind_ok (Err d) f y e = absurd cc

-- what a byte and higher bits spell
low-takes : (b high n : ℕ) → 128 ≤ b → b < 256 → with_low b high ≡ Ok n
    → (n ≡ 128 * high + (b - 128)) × (0 < high) × (high < 2 ^ 57)
low-takes b high n great small e = grind (arith, nat_tests, common_steps)

-- what was taken from the front
pub record Takes (bytes text rest : List ℕ) : Type 0 where
  pub parts : bytes ≡ text ++ rest
  pub left : AreBytes rest

number_in-takes : (more : ℕ) (bytes : List ℕ) (n : ℕ) (rest : List ℕ) → AreBytes bytes → number_in more bytes ≡ Ok (n, rest)
    → Takes bytes (leb128_in more n) rest × (n < 2 ^ 64)
number_in-takes more [] n rest small e = absurd cc
number_in-takes zero (b ∷ bytes) n rest small e =
    elim (cases_lt b 128) [
      | inl lt ↦
          let one : nat_lt b 128 ≡ true = grind (arith, nat_tests) in
          let e2 : read b bytes ≡ read n rest = subst (λ t. cond t (read b bytes) (Err Invalid) ≡ read n rest) one e in
          let n-is : b ≡ n = ap number_of e2 in
          let rest-is : bytes ≡ rest = ap rest_of e2 in
          (record { parts = rw (n-is, rest-is) refl; left = subst AreBytes rest-is small.1 }, omega (arith, n-is, lt))
      | inr ge ↦
          let many : nat_lt b 128 ≡ false = grind (arith, nat_tests) in
          let e2 : Err Invalid ≡ read n rest = subst (λ t. cond t (read b bytes) (Err Invalid) ≡ read n rest) many e in
          absurd cc
    ]
number_in-takes (suc more) (b ∷ bytes) n rest small e =
    let going : Result (ℕ × List ℕ) Unread = (number_in more bytes >>= λ high. (with_low b high.0 >>= λ n. Ok (n, high.1))) in
    elim (cases_lt b 128) [
      | inl lt ↦
          let one : nat_lt b 128 ≡ true = grind (arith, nat_tests) in
          let e2 : read b bytes ≡ read n rest = subst (λ t. cond t (read b bytes) going ≡ read n rest) one e in
          let n-is : b ≡ n = ap number_of e2 in
          let rest-is : bytes ≡ rest = ap rest_of e2 in
          let few : nat_lt n 128 ≡ true = subst (λ (k : ℕ). nat_lt k 128 ≡ true) n-is one in
          (record { parts = rw (few, n-is, rest-is) refl; left = subst AreBytes rest-is small.1 }, omega (arith, n-is, lt))
      | inr ge ↦
          let many : nat_lt b 128 ≡ false = grind (arith, nat_tests) in
          let e2 : going ≡ read n rest = subst (λ t. cond t (read b bytes) going ≡ read n rest) many e in
          let h = bind_ok (number_in more bytes) (λ high. (with_low b high.0 >>= λ n. read n high.1)) (n, rest) e2 in
          let m = bind_ok (with_low b h.0.0) (λ n. read n h.0.1) (n, rest) h.2 in
          let e3 : read m.0 h.0.1 ≡ read n rest = m.2 in
          let n-is : m.0 ≡ n = ap number_of e3 in
          let rest-is : h.0.1 ≡ rest = ap rest_of e3 in
          let low = low-takes b h.0.0 m.0 ge small.0 m.1 in
          let t = number_in-takes more bytes h.0.0 h.0.1 small.1 h.1 in
          let ge_n : 128 ≤ n = omega (arith, n-is, low.0, low.1) in
          let great : nat_lt n 128 ≡ false = grind (arith, nat_tests) in
          let first : n % 128 + 128 ≡ b = omega (arith, n-is, low.0, ge, small.0) in
          let second : n / 128 ≡ h.0.0 = omega (arith, n-is, low.0, ge, small.0) in (
            record {
              parts = rw (great, first, second) (ap (λ (l : List ℕ). b ∷ l) (t.0.parts ∙ ap (λ (l : List ℕ). leb128_in more h.0.0 ++ l) rest-is));
              left = subst AreBytes rest-is t.0.left;
            },
            omega (arith, n-is, low.0, low.2, small.0),
          )
    ]

pub number-again : (n : ℕ) (rest : List ℕ) → n < 2 ^ 64 → number_at (leb128 n ++ rest) ≡ Ok (n, rest)
unfolding number_at leb128
number-again n rest wide = number_in-again 9 n rest (omega arith) wide

pub number-cut : (n : ℕ) (front : List ℕ) (b : ℕ) (back : List ℕ) → leb128 n ≡ front ++ b ∷ back → number_at front ≡ Err Short
unfolding number_at leb128
number-cut n front b back e = number_in-cut 9 n front b back e

pub number-takes : (bytes : List ℕ) (n : ℕ) (rest : List ℕ) → AreBytes bytes → number_at bytes ≡ Ok (n, rest)
    → (bytes ≡ leb128 n ++ rest) × (n < 2 ^ 64) × AreBytes rest
unfolding number_at leb128
number-takes bytes n rest small e =
    let t = number_in-takes 9 bytes n rest small e in (t.0.parts, t.1, t.0.left)

-- ---- numbers in a row

pub row-again : (ns rest : List ℕ) → AreWide ns → numbers_at (length ns) (in_a_row ns ++ rest) ≡ Ok (ns, rest)
row-again [] rest wide = refl
row-again (n ∷ ns) rest wide =
    rw (append_assoc (leb128 n) (in_a_row ns) rest, number-again n (in_a_row ns ++ rest) wide.0, row-again ns rest wide.1) refl

-- a cut stands within the first of two lists, or after it
pub cut-cases : (a b front : List ℕ) (c : ℕ) (back : List ℕ) → a ++ b ≡ front ++ c ∷ back
    → ((d : ℕ) × (more : List ℕ) × (a ≡ front ++ d ∷ more)) ⊎ ((more : List ℕ) × (front ≡ a ++ more) × (b ≡ more ++ c ∷ back))
cut-cases [] b front c back e = inr (front, refl, e)
cut-cases (x ∷ a) b [] c back e = inl (x, a, refl)
cut-cases (x ∷ a) b (y ∷ front) c back e =
    let head : x ≡ y = cc in
    let tail : a ++ b ≡ front ++ c ∷ back = cc in
    elim (cut-cases a b front c back tail) [
      | inl w ↦ inl (w.0, w.1, rw head (ap (λ (l : List ℕ). y ∷ l) w.2))
      | inr v ↦ inr (v.0, rw head (ap (λ (l : List ℕ). y ∷ l) v.1), v.2)
    ]

pub row-cut : (ns front : List ℕ) (b : ℕ) (back : List ℕ) → AreWide ns → in_a_row ns ≡ front ++ b ∷ back
    → numbers_at (length ns) front ≡ Err Short
row-cut [] [] b back wide e = absurd cc
row-cut [] (x ∷ front) b back wide e = absurd cc
row-cut (n ∷ ns) front b back wide e =
    elim (cut-cases (leb128 n) (in_a_row ns) front b back e) [
      | inl w ↦ rw (number-cut n front w.0 w.1 w.2) refl
      | inr v ↦ rw (v.1, number-again n v.0 wide.0, row-cut ns v.0 b back wide.1 v.2) refl
    ]

pub row-takes : (count : ℕ) (bytes ns rest : List ℕ) → AreBytes bytes → numbers_at count bytes ≡ Ok (ns, rest) → AreSpelled count bytes ns rest
row-takes zero bytes ns rest small e =
    let e2 : row [] bytes ≡ row ns rest = e in
    let ns-is : [] ≡ ns = ap row_of e2 in
    let rest-is : bytes ≡ rest = ap after_row e2 in
    subst (λ (l : List ℕ). AreSpelled 0 bytes l rest) ns-is (record { parts = rest-is; count_is = refl; wide = tt; bytes_left = subst AreBytes rest-is small })
row-takes (suc count) bytes ns rest small e =
    let first = bind_ok (number_at bytes) (λ first. (numbers_at count first.1 >>= λ others. Ok (first.0 ∷ others.0, others.1))) (ns, rest) e in
    let others = bind_ok (numbers_at count first.0.1) (λ others. Ok (first.0.0 ∷ others.0, others.1)) (ns, rest) first.2 in
    let e2 : row (first.0.0 ∷ others.0.0) others.0.1 ≡ row ns rest = others.2 in
    let ns-is : first.0.0 ∷ others.0.0 ≡ ns = ap row_of e2 in
    let rest-is : others.0.1 ≡ rest = ap after_row e2 in
    let t = number-takes bytes first.0.0 first.0.1 small first.1 in
    let s = row-takes count first.0.1 others.0.0 others.0.1 t.2 others.1 in
    let parts : bytes ≡ in_a_row (first.0.0 ∷ others.0.0) ++ others.0.1 =
    t.0 ∙ ap (λ (l : List ℕ). leb128 first.0.0 ++ l) s.parts ∙ sym (append_assoc (leb128 first.0.0) (in_a_row others.0.0) others.0.1) in
    let whole : AreSpelled (suc count) bytes (first.0.0 ∷ others.0.0) others.0.1 =
    record { parts = parts; count_is = ap suc s.count_is; wide = (t.1, s.wide); bytes_left = s.bytes_left } in
    subst (λ (l : List ℕ). AreSpelled (suc count) bytes ns l) rest-is (subst (λ (l : List ℕ). AreSpelled (suc count) bytes l others.0.1) ns-is whole)
