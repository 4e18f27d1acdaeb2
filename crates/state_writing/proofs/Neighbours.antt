-- How many neighbours a node has: fewer than there are nodes.
use Rattle.std.proofs.Common.{◌≡◌, ◌<◌, arith, Bool, false, ℕ, zero, suc, List, [], ◌∷◌, length, get_or, inl, inr}
use Rattle.std.specs.List.{filter, range_with_len}
use Rattle.std.proofs.lemmas.Bool.{cases_Bool}
use Rattle.std.proofs.lemmas.List.Sums.{length-filter, count_by-le-length}
use Rattle.std.proofs.lemmas.List.FromFn.{length-range_with_len, get_or-range_with_len}
use Rattle.topology.specs.Network.{Network, are_joined, neighbours_of, IsAcceptedNetwork}
use Rattle.topology.specs.Laws.{NotToItself}

-- a list that loses an item becomes shorter
one_less : (test : ℕ → Bool) (xs : List ℕ) (k : ℕ) → k < length xs → test (get_or xs k 0) ≡ false → length (filter test xs) < length xs
one_less test [] k below off = absurd (omega arith)
one_less test (x ∷ xs) zero below off =
    rw off (omega (arith, length-filter test xs, count_by-le-length test xs))
one_less test (x ∷ xs) (suc k) below off =
    let rest = one_less test xs k (omega arith) off in
    elim (cases_Bool (test x)) [
      | inl on ↦ rw on (omega (arith, rest))
      | inr out ↦ rw out (omega (arith, rest))
    ]

pub fewer_than_nodes : NotToItself → (net : Network) (v : ℕ) → IsAcceptedNetwork net → v < net.nodes → length (neighbours_of net v) < net.nodes
fewer_than_nodes not_to_itself net v accepted inside =
    let long = length-range_with_len 0 net.nodes in
    let at : get_or (range_with_len 0 net.nodes) v 0 ≡ v = omega (arith, get_or-range_with_len 0 net.nodes v 0 inside) in
    let off : are_joined net.edges v (get_or (range_with_len 0 net.nodes) v 0) ≡ false = rw at (not_to_itself net v accepted) in
    let less = one_less (are_joined net.edges v) (range_with_len 0 net.nodes) v (omega (arith, long)) off in
    omega (arith, less, long)
