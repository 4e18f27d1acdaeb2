-- What holds of each node of a network, or of each neighbour of one.
use Rattle.std.proofs.Common.{◌≡◌, ℕ, ◌+◌, ◌<◌, Bool, true, false, zero, suc, List, [], ◌∷◌, filter, refl, arith}
use Rattle.std.specs.Prelude.{if◌then◌else◌}
use Rattle.std.specs.List.{AllByRecursion, range_with_len}
use Rattle.topology.specs.Network.{Network, are_joined, neighbours_of}

-- the two are nodes of the network, and joined
pub record IsLink (net : Network) (u v : ℕ) : Type 0 where
  pub first : u < net.nodes
  pub second : v < net.nodes
  pub joined : are_joined net.edges u v ≡ true

pub all-range : (P : ℕ → Type 0) (i n : ℕ) → ((x : ℕ) → x < i + n → P x) → AllByRecursion P (range_with_len i n)
all-range P i zero h = tt
all-range P i (suc n) h = (h i (omega arith), all-range P (i + 1) n (λ x below. h x (omega arith)))

kept-or-not : (P : ℕ → Type 0) (b : Bool) (x : ℕ) (xs : List ℕ) → (b ≡ true → P x) → AllByRecursion P xs → AllByRecursion P (if b then x ∷ xs else xs)
kept-or-not P true x xs h all = (h refl, all)
kept-or-not P false x xs h all = all

all-filter : (P : ℕ → Type 0) (test : ℕ → Bool) (xs : List ℕ) → AllByRecursion (λ x. test x ≡ true → P x) xs → AllByRecursion P (filter test xs)
all-filter P test [] all = tt
all-filter P test (x ∷ xs) (one, rest) = kept-or-not P (test x) x (filter test xs) one (all-filter P test xs rest)

pub all-neighbours : (P : ℕ → Type 0) (net : Network) (u : ℕ) → u < net.nodes → ((v : ℕ) → IsLink net u v → P v) → AllByRecursion P (neighbours_of net u)
all-neighbours P net u node h =
    all-filter P (are_joined net.edges u) (range_with_len 0 net.nodes)
    (all-range (λ v. are_joined net.edges u v ≡ true → P v) 0 net.nodes
    (λ v below joined. h v (record { first = node; second = omega arith; joined = joined })))
