-- Rows and numbers, written one after the other.
use Rattle.std.proofs.Common.{◌≡◌, ◌∙◌, ℕ, ◌+◌, ◌≤◌, ◌<◌, true, false, List, [], ◌∷◌, ◌++◌, cond, length, map, refl, sym, ap, arith, Vec, set, take, drop}
use Rattle.std.specs.List.{range_with_len}
use Rattle.std.proofs.lemmas.List.{take_more_set, take-append-le, take_all, map-append, map-id, append-nil}
use Rattle.std.proofs.lemmas.List.Sums.{length-filter, count_by-le-length}
use Rattle.std.proofs.lemmas.List.FromFn.{length-range_with_len, filter_of_map_range_with_len_more, map-range_with_len_more}
use Rattle.topology.specs.Network.{Edge, are_joined, neighbours_in}
use Rattle.topology.specs.Layout.{rows_of}

-- the neighbours among one node more
pub neighbours_more : (edges : List Edge) (v k : ℕ) → neighbours_in (k + 1) edges v ≡ neighbours_in k edges v ++ cond (are_joined edges v k) (k ∷ []) []
neighbours_more edges v k =
    let more = filter_of_map_range_with_len_more (are_joined edges v) (λ x. x) 0 k k (omega arith) in
    rw (map-id (range_with_len 0 (k + 1)), map-id (range_with_len 0 k)) at more

pub neighbours_more_yes : (edges : List Edge) (v k : ℕ) → true ≡ are_joined edges v k → neighbours_in k edges v ++ k ∷ [] ≡ neighbours_in (k + 1) edges v
neighbours_more_yes edges v k joined = rw (neighbours_more edges v k, ← joined) refl

pub neighbours_more_no : (edges : List Edge) (v k : ℕ) → false ≡ are_joined edges v k → neighbours_in k edges v ≡ neighbours_in (k + 1) edges v
neighbours_more_no edges v k joined = sym (neighbours_more edges v k ∙ rw (← joined) (append-nil (neighbours_in k edges v)))

-- they are at most as many as the nodes
pub neighbours_few : (edges : List Edge) (v k : ℕ) → length (neighbours_in k edges v) ≤ k
neighbours_few edges v k = omega (arith, length-filter (are_joined edges v) (range_with_len 0 k), count_by-le-length (are_joined edges v) (range_with_len 0 k), length-range_with_len 0 k)

-- one row more is written
pub rows_more : {A : Type 0} (n : ℕ) (edges : List Edge) (rows : List (Vec ℕ A)) (v : ℕ) (row : Vec ℕ A) → v < length rows
    → rows_of (take v rows) ≡ map (neighbours_in n edges) (range_with_len 0 v) → row.items ≡ neighbours_in n edges v
    → rows_of (take (v + 1) (set rows v row)) ≡ map (neighbours_in n edges) (range_with_len 0 (v + 1))
rows_more {A = A} n edges rows v row within before is =
    let f : Vec ℕ A → List ℕ = λ r. r.items in
    ap rows_of (take_more_set rows v row within) ∙ map-append f (take v rows) (row ∷ []) ∙ rw (before, is) (sym (map-range_with_len_more (neighbours_in n edges) 0 v v (omega arith)))

-- what writing through the slice of a vector leaves
pub written_back : {X : Type 0} (n : ℕ) (new old : List X) → length new ≡ n → take n (new ++ drop (length new) old) ≡ new
written_back n new old e = let h : n ≤ length new = omega arith in rw take-append-le (take_all n new (omega arith))
