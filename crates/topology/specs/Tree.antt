-- Distances and true parents as functions that compute. Network says by walks what a distance and a
-- true parent are; the laws say that these functions agree with it on each accepted network.
use Rattle.std.specs.Prelude.{ℕ, zero, suc, ◌+◌, Bool, ◌==◌, if◌then◌else◌, nat_lt, Option}
use Rattle.std.specs.List.{list_any, list_all, find, range_with_len}
use Rattle.topology.specs.Network.{Network, neighbours_of}

-- a walk of this many steps leads from the root to v
abbrev pub reaches : Network → ℕ → ℕ → Bool
reaches net zero v = v == net.root
reaches net (suc steps) v = list_any (reaches net steps) (neighbours_of net v)

-- the least number below a limit that passes a test, or the limit if none does
abbrev pub least_below : ℕ → (ℕ → Bool) → ℕ
least_below zero test = 0
least_below (suc limit) test = if test 0 then 0 else suc (least_below limit (λ k. test (suc k)))

-- the least number of steps that lead from the root to v; the number of nodes if no walk does
abbrev pub distance_of : Network → ℕ → ℕ
distance_of net v = least_below net.nodes (λ steps. reaches net steps v)

-- each node has a walk from the root, as a test: its distance is below the number of nodes
abbrev pub is_connected : Network → Bool
is_connected net = list_all (λ v. nat_lt (distance_of net v) net.nodes) (range_with_len 0 net.nodes)

-- the neighbour is one nearer to the root
abbrev pub is_one_nearer : Network → ℕ → ℕ → Bool
is_one_nearer net v w = distance_of net w + 1 == distance_of net v

-- the first, so the smallest, of the neighbours that are one nearer to the root; none of the root's
-- is
abbrev pub parent_of : Network → ℕ → Option ℕ
parent_of net v = find (is_one_nearer net v) (neighbours_of net v)
