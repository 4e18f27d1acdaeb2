-- The copying ring: a list of values below a modulus q. The first is the head's.
use Rattle.std.specs.Prelude.{◌≡◌, ◌≢◌, ℕ, ◌+◌, ◌<◌, ◌⊎◌, Bool, true, false, zero, suc, List, [], ◌∷◌, length}
use Rattle.std.specs.List.{AllByRecursion}
use Rattle.k_state.specs.Machine.{is_privileged, root_moved}

-- ---- what may happen to a ring

-- a change that leaves the head as it is, somewhere in the list: an item is copied to its right, an
-- item is written over its right neighbour, or an item's right neighbour is removed
pub data Change : List ℕ → List ℕ → Type 0 where
  Copied : {x : ℕ} {xs : List ℕ} → Change (x ∷ xs) (x ∷ x ∷ xs)
  Written : {x y : ℕ} {xs : List ℕ} → Change (x ∷ y ∷ xs) (x ∷ x ∷ xs)
  Removed : {x y : ℕ} {xs : List ℕ} → Change (x ∷ y ∷ xs) (x ∷ xs)
  Further : {x : ℕ} {xs ys : List ℕ} → Change xs ys → Change (x ∷ xs) (x ∷ ys)

-- the last of x and what follows it: x itself if nothing does
abbrev pub last_of : ℕ → List ℕ → ℕ
last_of x [] = x
last_of x (y ∷ ys) = last_of y ys

-- x and what follows it, without the last
abbrev pub but_last : ℕ → List ℕ → List ℕ
but_last x [] = []
but_last x (y ∷ ys) = x ∷ but_last y ys

-- if the last item equals the head, the head goes on to the next value; the last item, unless it is
-- the head itself, may then go
pub data HeadMove (q : ℕ) : List ℕ → List ℕ → Type 0 where
  Moved : {x : ℕ} {xs : List ℕ} → last_of x xs ≡ x → HeadMove q (x ∷ xs) (root_moved x q ∷ xs)
  Dropped : {x y : ℕ} {ys : List ℕ} → last_of y ys ≡ x
      → HeadMove q (x ∷ y ∷ ys) (root_moved x q ∷ but_last y ys)

-- some changes, and then at most one head move; with the number of head moves, 0 or 1
pub data Step (q : ℕ) : ℕ → List ℕ → List ℕ → Type 0 where
  Stays : {xs : List ℕ} → Step q zero xs xs
  Moves : {xs ys : List ℕ} → HeadMove q xs ys → Step q (suc zero) xs ys
  Changes : {n : ℕ} {xs ys zs : List ℕ} → Change xs ys → Step q n ys zs → Step q n xs zs

-- changes and head moves in any order; with the number of head moves
pub data Run (q : ℕ) : ℕ → List ℕ → List ℕ → Type 0 where
  Done : {xs : List ℕ} → Run q zero xs xs
  Move_first : {n : ℕ} {xs ys zs : List ℕ} → HeadMove q xs ys → Run q n ys zs → Run q (suc n) xs zs
  Change_first : {n : ℕ} {xs ys zs : List ℕ} → Change xs ys → Run q n ys zs → Run q n xs zs

-- a parallel step of what stands after `left`: each item keeps its value or takes that of its left
-- neighbour, all at once
abbrev pub IsParallel : ℕ → List ℕ → List ℕ → Type 0
IsParallel left [] [] = Unit {0}
IsParallel left [] (y ∷ ys) = ⊥
IsParallel left (x ∷ xs) [] = ⊥
IsParallel left (x ∷ xs) (y ∷ ys) = ((y ≡ x) ⊎ (y ≡ left)) × IsParallel x xs ys

-- ---- what a ring may look like

abbrev pub head_of : List ℕ → ℕ
head_of [] = 0
head_of (x ∷ xs) = x

abbrev pub tail_of : List ℕ → List ℕ
tail_of [] = []
tail_of (x ∷ xs) = xs

-- one value or more, each below the modulus
abbrev pub IsRing : ℕ → List ℕ → Type 0
IsRing q ring = (0 < length ring) × AllByRecursion (λ x. x < q) ring

-- some items with P, perhaps none, and then only items with Q
abbrev pub IsFrontThen : (ℕ → Type 0) → (ℕ → Type 0) → List ℕ → Type 0
IsFrontThen P Q [] = Unit {0}
IsFrontThen P Q (x ∷ xs) = (P x × IsFrontThen P Q xs) ⊎ (Q x × AllByRecursion Q xs)

-- good: items that equal the head, and then only items that are one less, modulo q
abbrev pub IsGood : ℕ → List ℕ → Type 0
IsGood q ring = IsFrontThen (λ x. x ≡ head_of ring) (λ x. root_moved x q ≡ head_of ring) ring

-- fresh: the head's value stands nowhere else
abbrev pub IsFresh : List ℕ → Type 0
IsFresh ring = AllByRecursion (λ x. x ≢ head_of ring) (tail_of ring)

-- the head equals `a`, and all items that equal `a` are in front of all that do not
abbrev pub HasFront : ℕ → List ℕ → Type 0
HasFront a ring = (head_of ring ≡ a) × IsFrontThen (λ x. x ≡ a) (λ x. x ≢ a) ring

-- ---- a ring along time

-- the ring at each of the moments 0 to n, and how many head moves (0 or 1) lead from each to the
-- next
abbrev pub IsHistory : ℕ → ℕ → (ℕ → List ℕ) → (ℕ → ℕ) → Type 0
IsHistory q n ring moves = (k : ℕ) → k < n → Step q (moves k) (ring k) (ring (k + 1))

-- how many head moves there are up to moment n
abbrev pub moves_until : (ℕ → ℕ) → ℕ → ℕ
moves_until moves zero = 0
moves_until moves (suc n) = moves_until moves n + moves n

-- a moment before the last of as many head moves as the ring had items, at which the head holds a
-- value for the first time, and this value stands nowhere else
pub record IsFreshMoment (ring : ℕ → List ℕ) (moves : ℕ → ℕ) (k : ℕ) : Type 0 where
  pub early : moves_until moves k < length (ring 0)
  pub fresh : IsFresh (ring k)
  pub first : (j : ℕ) → j < k → head_of (ring j) ≢ head_of (ring k)

-- ---- a ring whose items all stay in their places

-- a parallel step, or the head's move; with the number of head moves, 0 or 1
pub data Turn (q : ℕ) : ℕ → List ℕ → List ℕ → Type 0 where
  Copies : {x : ℕ} {xs ys : List ℕ} → IsParallel x xs ys → Turn q zero (x ∷ xs) (x ∷ ys)
  Goes_on : {x : ℕ} {xs : List ℕ} → last_of x xs ≡ x
      → Turn q (suc zero) (x ∷ xs) (root_moved x q ∷ xs)

-- the item at place i after `left` sees a different value before it
abbrev pub sees_another : ℕ → List ℕ → ℕ → Bool
sees_another left [] i = false
sees_another left (x ∷ xs) zero = is_privileged false x left
sees_another left (x ∷ xs) (suc i) = sees_another x xs i

-- the item at place i is privileged: the head if the last item has its value, every other if the
-- item before it has a different one
abbrev pub is_privileged_at : List ℕ → ℕ → Bool
is_privileged_at [] i = false
is_privileged_at (x ∷ xs) zero = is_privileged true x (last_of x xs)
is_privileged_at (x ∷ xs) (suc i) = sees_another x xs i
