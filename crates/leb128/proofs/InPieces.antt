-- What is read of a piece of bytes stands if more follow; and how many bytes it takes at most.
use Rattle.std.proofs.Common.{◌≡◌, ℕ, zero, suc, ◌+◌, ◌-◌, ◌*◌, ◌^◌, ◌≤◌, ◌==◌, nat_lt, Bool, true, false, List, [], ◌∷◌, ◌++◌, length, Result, Ok, Err, refl, ap, sym, ◌∙◌, append_assoc, arith, if◌then◌else◌}
use Rattle.std.proofs.lemmas.List.{length-append}
use Rattle.leb128.specs.declared.unread.Unread.{Unread}
use Rattle.leb128.specs.declared.unread.Unread.TheVariants.{Short, Invalid}
use Rattle.leb128.specs.Reading.{◌>>=◌, with_low, number_in, number_at, numbers_at}
use Rattle.leb128.specs.Pieces.{IsKept, IsOfAtMost}

-- what goes on from a value that is kept, is kept if that is
pub bind-kept : {X Y : Type 0} (more : List ℕ) (r longer : Result (X × List ℕ) Unread) (f g : X × List ℕ → Result (Y × List ℕ) Unread)
    → IsKept more r longer → ((x : X × List ℕ) → IsKept more (f x) (g (x.0, x.1 ++ more))) → IsKept more (r >>= f) (longer >>= g)
bind-kept more (Ok x) longer f g h on = rw h (on x)
bind-kept more (Err Short) longer f g h on = tt
bind-kept more (Err Invalid) longer f g h on = rw h refl

-- a value that does not depend on the bytes
value-kept : {X : Type 0} (more bytes : List ℕ) (r : Result X Unread) → IsKept more (r >>= λ n. Ok (n, bytes)) (r >>= λ n. Ok (n, bytes ++ more))
value-kept more bytes (Ok x) = refl
value-kept more bytes (Err Short) = tt
value-kept more bytes (Err Invalid) = refl

-- one of two, by a test that does not depend on what follows
pub test-kept : {X : Type 0} (more : List ℕ) (b : Bool) (r s longer other : Result (X × List ℕ) Unread)
    → IsKept more r longer → IsKept more s other
    → IsKept more (if b then r else s) (if b then longer else other)
test-kept more true r s longer other h k = h
test-kept more false r s longer other h k = k

number_in-kept : (k : ℕ) (bytes more : List ℕ) → IsKept more (number_in k bytes) (number_in k (bytes ++ more))
number_in-kept k [] more = tt
number_in-kept zero (b ∷ bytes) more = test-kept more (nat_lt b 128) (Ok (b, bytes)) (Err Invalid) (Ok (b, bytes ++ more)) (Err Invalid) refl refl
number_in-kept (suc k) (b ∷ bytes) more =
    test-kept more (nat_lt b 128) (Ok (b, bytes)) _ (Ok (b, bytes ++ more)) _ refl
    (bind-kept more (number_in k bytes) (number_in k (bytes ++ more))
    (λ high. (with_low b high.0 >>= λ n. Ok (n, high.1))) (λ high. (with_low b high.0 >>= λ n. Ok (n, high.1)))
    (number_in-kept k bytes more) (λ high. value-kept more high.1 (with_low b high.0)))

pub number-kept : (bytes more : List ℕ) → IsKept more (number_at bytes) (number_at (bytes ++ more))
unfolding number_at
number-kept bytes more = number_in-kept 9 bytes more

pub row-kept : (count : ℕ) (bytes more : List ℕ) → IsKept more (numbers_at count bytes) (numbers_at count (bytes ++ more))
row-kept zero bytes more = refl
row-kept (suc count) bytes more =
    bind-kept more (number_at bytes) (number_at (bytes ++ more))
    (λ first. (numbers_at count first.1 >>= λ others. Ok (first.0 ∷ others.0, others.1)))
    (λ first. (numbers_at count first.1 >>= λ others. Ok (first.0 ∷ others.0, others.1)))
    (number-kept bytes more)
    (λ first. bind-kept more (numbers_at count first.1) (numbers_at count (first.1 ++ more))
    (λ others. Ok (first.0 ∷ others.0, others.1)) (λ others. Ok (first.0 ∷ others.0, others.1))
    (row-kept count first.1 more) (λ others. refl))

-- ---- how many bytes

after-most : {X : Type 0} (one two both : ℕ) (bytes left front : List ℕ) (s : Result (X × List ℕ) Unread) → one + two ≤ both
    → bytes ≡ front ++ left → length front ≤ one → IsOfAtMost two left s → IsOfAtMost both bytes s
after-most one two both bytes left front (Ok y) le e few (more, parts, fewer) = (
  front ++ more,
  e ∙ ap (λ (l : List ℕ). front ++ l) parts ∙ sym (append_assoc front more y.1),
  omega (arith, le, few, fewer, length-append front more),
)
after-most one two both bytes left front (Err Short) le e few g =
    omega (arith, le, few, g, ap (λ (l : List ℕ). length l) e, length-append front left)
after-most one two both bytes left front (Err Invalid) le e few g = tt

-- two readings, one after the other
pub bind-most : {X Y : Type 0} (one two both : ℕ) (bytes : List ℕ) (r : Result (X × List ℕ) Unread) (f : X × List ℕ → Result (Y × List ℕ) Unread)
    → one + two ≤ both → IsOfAtMost one bytes r → ((x : X × List ℕ) → IsOfAtMost two x.1 (f x)) → IsOfAtMost both bytes (r >>= f)
bind-most one two both bytes (Ok x) f le h on = after-most one two both bytes x.1 h.0 (f x) le h.1 h.2 (on x)
bind-most one two both bytes (Err Short) f le h on = omega (arith, le, h)
bind-most one two both bytes (Err Invalid) f le h on = tt

pub test-most : {X : Type 0} (most : ℕ) (bytes : List ℕ) (b : Bool) (r s : Result (X × List ℕ) Unread)
    → IsOfAtMost most bytes r → IsOfAtMost most bytes s → IsOfAtMost most bytes (if b then r else s)
test-most most bytes true r s h k = h
test-most most bytes false r s h k = k

-- with one more byte in front
one-longer : {X : Type 0} (most b : ℕ) (bytes : List ℕ) (r : Result (X × List ℕ) Unread) → IsOfAtMost most bytes r
    → IsOfAtMost (suc most) (b ∷ bytes) r
one-longer most b bytes (Ok x) h = (b ∷ h.0, ap (λ (l : List ℕ). b ∷ l) h.1, omega (arith, h.2))
one-longer most b bytes (Err Short) h = omega (arith, h)
one-longer most b bytes (Err Invalid) h = tt

-- a number that is put together takes no more bytes
put-most : (bytes : List ℕ) (a c : Bool) (n : ℕ)
    → IsOfAtMost 0 bytes ((if a then Err Invalid else if c then Ok n else Err Invalid) >>= λ m. Ok (m, bytes))
put-most bytes true c n = tt
put-most bytes false true n = ([], refl, omega arith)
put-most bytes false false n = tt

number_in-most : (k : ℕ) (bytes : List ℕ) → IsOfAtMost (suc k) bytes (number_in k bytes)
number_in-most k [] = omega arith
number_in-most zero (b ∷ bytes) = test-most 1 (b ∷ bytes) (nat_lt b 128) (Ok (b, bytes)) (Err Invalid) (b ∷ [], refl, omega arith) tt
number_in-most (suc k) (b ∷ bytes) =
    test-most (suc (suc k)) (b ∷ bytes) (nat_lt b 128) (Ok (b, bytes)) _ (b ∷ [], refl, omega arith)
    (one-longer (suc k) b bytes _
    (bind-most (suc k) 0 (suc k) bytes (number_in k bytes) (λ high. (with_low b high.0 >>= λ n. Ok (n, high.1)))
    (omega arith) (number_in-most k bytes) (λ high. put-most high.1 (high.0 == 0) (nat_lt high.0 (2 ^ 57)) (128 * high.0 + (b - 128)))))

pub number-most : (bytes : List ℕ) → IsOfAtMost 10 bytes (number_at bytes)
unfolding number_at
number-most bytes = number_in-most 9 bytes

pub row-most : (count : ℕ) (bytes : List ℕ) → IsOfAtMost (10 * count) bytes (numbers_at count bytes)
row-most zero bytes = ([], refl, omega arith)
row-most (suc count) bytes =
    bind-most 10 (10 * count) (10 * suc count) bytes (number_at bytes)
    (λ first. (numbers_at count first.1 >>= λ others. Ok (first.0 ∷ others.0, others.1)))
    (omega arith) (number-most bytes)
    (λ first. bind-most (10 * count) 0 (10 * count) first.1 (numbers_at count first.1)
    (λ others. Ok (first.0 ∷ others.0, others.1)) (omega arith) (row-most count first.1) (λ others. ([], refl, omega arith)))
