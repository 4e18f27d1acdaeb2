-- The laws of the copying ring, for every modulus q.
use Rattle.std.specs.Prelude.{◌≡◌, ℕ, suc, ◌+◌, ◌<◌, ◌≤◌, ◌⊎◌, IsTrue, List, ◌∷◌, length}
use Rattle.std.specs.List.{AllByRecursion}
use Rattle.k_state.specs.Machine.{root_moved}
use Rattle.k_state.specs.Ring.{HasFront, IsFresh, IsFreshMoment, IsGood, IsHistory, IsParallel, IsRing, Run, Step, Turn, head_of, is_privileged_at, moves_until, tail_of}
use Rattle.k_state.specs.Ages.{age, HasFallingAges}

-- ---- a good ring

-- a step keeps a good ring good
abbrev pub GoodStays : Type 0
GoodStays = (q moves : ℕ) (old new : List ℕ) → Step q moves old new → IsGood q old → IsGood q new

-- a run keeps a good ring good
abbrev pub GoodOutlastsRuns : Type 0
GoodOutlastsRuns =
    (q moves : ℕ) (old new : List ℕ) → Run q moves old new → IsGood q old → IsGood q new

-- if there are two values or more, the items of a good ring that equal its head are in front
abbrev pub GoodHasFront : Type 0
GoodHasFront =
    (q : ℕ) (ring : List ℕ) → 1 < q → IsRing q ring → IsGood q ring → HasFront (head_of ring) ring

-- ---- a value that stands nowhere else

-- a step keeps the values below the modulus
abbrev pub RingStays : Type 0
RingStays = (q moves : ℕ) (old new : List ℕ) → Step q moves old new → IsRing q old → IsRing q new

-- a value that stands nowhere else is in front
abbrev pub FreshHasFront : Type 0
FreshHasFront = (ring : List ℕ) → IsFresh ring → HasFront (head_of ring) ring

-- the items that equal `a` stay in front until the head moves; then the ring is good, and every
-- item but the head equals `a`
abbrev pub FrontStaysOrTurnsGood : Type 0
FrontStaysOrTurnsGood =
    (q a moves : ℕ) (old new : List ℕ) → Step q moves old new → HasFront a old
    → ((moves ≡ 0) × HasFront a new)
    ⊎ ((moves ≡ 1) × IsGood q new × AllByRecursion (λ x. x ≡ a) (tail_of new))

-- if the head makes as many moves as there were items, and there were at most q, then before the
-- last of these moves it holds a value that stands nowhere else when the head first holds it
abbrev pub SomeValueIsFresh : Type 0
SomeValueIsFresh =
    (q n : ℕ) (ring : ℕ → List ℕ) (moves : ℕ → ℕ) → IsHistory q n ring moves → IsRing q (ring 0)
    → length (ring 0) ≤ q
    → length (ring 0) ≤ moves_until moves n → (k : ℕ) × (k ≤ n) × IsFreshMoment ring moves k

-- the head moves up to moment n + 1 are those of the first step and those of the n steps after it
abbrev pub MovesFromFirst : Type 0
MovesFromFirst =
    (moves : ℕ → ℕ) (n : ℕ)
    → moves_until moves (suc n) ≡ moves 0 + moves_until (λ k. moves (suc k)) n

-- ---- convergence

-- a ring of at most q items is good after as many head moves as it had items
abbrev pub TurnsGood : Type 0
TurnsGood =
    (q n : ℕ) (ring : ℕ → List ℕ) (moves : ℕ → ℕ) → IsHistory q n ring moves → IsRing q (ring 0)
    → length (ring 0) ≤ q
    → length (ring 0) ≤ moves_until moves n → IsGood q (ring n)

-- the same for a run
abbrev pub RunTurnsGood : Type 0
RunTurnsGood =
    (q moves : ℕ) (old new : List ℕ) → Run q moves old new → IsRing q old → length old ≤ q
    → length old ≤ moves → IsGood q new

-- ---- many items at once

-- a parallel step is a run without head moves
abbrev pub ParallelIsRun : Type 0
ParallelIsRun =
    (q left : ℕ) (xs ys : List ℕ) → IsParallel left xs ys → Run q 0 (left ∷ xs) (left ∷ ys)

-- a step is a run
abbrev pub StepIsRun : Type 0
StepIsRun = (q moves : ℕ) (old new : List ℕ) → Step q moves old new → Run q moves old new

-- two runs, one after the other, are a run
abbrev pub RunsJoin : Type 0
RunsJoin = (q m n : ℕ) (xs ys zs : List ℕ) → Run q m xs ys → Run q n ys zs → Run q (m + n) xs zs

-- ---- privilege in a good ring

-- some item of a ring is privileged, good or not
abbrev pub SomeItemIsPrivileged : Type 0
SomeItemIsPrivileged =
    (ring : List ℕ) → 0 < length ring
    → (i : ℕ) × (i < length ring) × IsTrue (is_privileged_at ring i)

-- if there are two values or more, at most one item of a good ring is privileged
abbrev pub OneItemIsPrivileged : Type 0
OneItemIsPrivileged =
    (q i j : ℕ) (ring : List ℕ) → 1 < q → IsRing q ring → IsGood q ring
    → IsTrue (is_privileged_at ring i) → IsTrue (is_privileged_at ring j) → i ≡ j

-- if there are two values or more, each item of a good ring whose items stay in their places is
-- privileged at some moment between two moves of the head
abbrev pub PrivilegePasses : Type 0
PrivilegePasses =
    (q n i : ℕ) (ring : ℕ → List ℕ) (moves : ℕ → ℕ) → 1 < q
    → ((k : ℕ) → k < n → Turn q (moves k) (ring k) (ring (k + 1))) → IsRing q (ring 0)
    → IsGood q (ring 0)
    → 2 ≤ moves_until moves n → i < length (ring 0)
    → (k : ℕ) × (k ≤ n) × (moves_until moves k ≡ 1) × IsTrue (is_privileged_at (ring k) i)

-- ---- ages

-- the head's value at the moment from which ages count is of age 0
abbrev pub AgeOfStart : Type 0
AgeOfStart = (q start : ℕ) → start < q → age q start start ≡ 0

-- values of the same age are equal
abbrev pub AgesDiffer : Type 0
AgesDiffer = (q start x y : ℕ) → x < q → y < q → age q start x ≡ age q start y → x ≡ y

-- the next value's age is greater by one, if that is below q
abbrev pub AgeGoesOn : Type 0
AgeGoesOn =
    (q start x : ℕ) → age q start x + 1 < q → age q start (root_moved x q) ≡ age q start x + 1

-- ages that fall along a ring still fall along it after every run, if the head's own age and the
-- run's head moves add up to less than q; then the head's own age has grown by these moves
abbrev pub AgesStay : Type 0
AgesStay =
    (q start moves : ℕ) (old new : List ℕ) → Run q moves old new → HasFallingAges q start old
    → age q start (head_of old) + moves < q
    → HasFallingAges q start new × (age q start (head_of new) ≡ age q start (head_of old) + moves)

-- if ages fall along a ring, the items that equal its head are in front
abbrev pub FallingHasFront : Type 0
FallingHasFront =
    (q start : ℕ) (ring : List ℕ) → IsRing q ring → HasFallingAges q start ring
    → HasFront (head_of ring) ring

-- so one move of the head makes the ring good
abbrev pub AgesTurnGood : Type 0
AgesTurnGood =
    (q start moves : ℕ) (old new : List ℕ) → Run q moves old new → IsRing q old
    → HasFallingAges q start old → 0 < moves → IsGood q new
