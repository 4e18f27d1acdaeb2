-- Small examples of edges, of what is nearer, and of why values are refused; and some that fail.
use Rattle.std.proofs.Common.{◌≡◌, ℕ, ◌≤◌, ◌+◌, ◌∷◌, [], List, None, Some, map, refl, codes, arith, length, true, false, pos}
use Rattle.std.specs.Prelude.{nat_lt}
use Rattle.topology.proofs.LaidOut.{root_distance}
use Rattle.topology.proofs.Rows.{two, line, apart, edge, two-accepted}
use Rattle.topology.specs.FaultName.{fault_name}
use Rattle.topology.specs.Network.{Edge, IsDistance, IsNearer, IsWalk, IsWithinLimits, edges_without, has_double_edge, is_between, is_same_edge}
use Rattle.topology.specs.Ranges.{parent_fits}
use Rattle.topology.specs.Refusal.{has_bad_end, has_double, has_loop}
use Rattle.topology.specs.Tree.{is_connected, is_one_nearer, least_below}
use Rattle.topology.specs.declared.fault.NetFault.TheVariants.{Apart, NoEdge, TooSmall}

-- ---- edges

between : is_between 1 3 (3, 1) ≡ true
between = refl

between_not-one_end : is_between 1 3 (1, 2) ≡ false
between_not-one_end = refl

same-turned : is_same_edge (1, 3) (3, 1) ≡ true
same-turned = refl

same_not-next : is_same_edge (1, 3) (3, 2) ≡ false
same_not-next = refl

double-turned : has_double_edge ((0, 1) ∷ (1, 2) ∷ (1, 0) ∷ []) ≡ true
double-turned = refl

double_not-once : has_double_edge ((0, 1) ∷ (1, 2) ∷ (2, 0) ∷ []) ≡ false
double_not-once = refl

abbrev square : List Edge
square = (0, 1) ∷ (0, 2) ∷ (1, 3) ∷ (2, 3) ∷ []

without-turned : edges_without square 3 1 ≡ (0, 1) ∷ (0, 2) ∷ (2, 3) ∷ []
without-turned = refl

without_not-apart : edges_without square 1 2 ≡ square
without_not-apart = refl

parents-fit : map (parent_fits 2) (None ∷ Some 1 ∷ Some 2 ∷ []) ≡ true ∷ true ∷ false ∷ []
parents-fit = refl

within : IsWithinLimits two
within = two-accepted.limits

within_not-root : ¬ IsWithinLimits (record two { root = 2 })
within_not-root limits = omega (arith, limits.root_in)

-- ---- nearer to the root

least-passes : least_below 5 (nat_lt 2) ≡ 3
least-passes = refl

least_not-there : least_below 5 (nat_lt 7) ≡ 5
least_not-there = refl

one-nearer : is_one_nearer line 2 1 ≡ true
one-nearer = refl

one_not-further : is_one_nearer line 1 2 ≡ false
one_not-further = refl

connected : is_connected line ≡ true
connected = refl

connected_not-apart : is_connected apart ≡ false
connected_not-apart = refl

-- of two nodes the root is one nearer than the other
nearer-root : IsNearer two 1 0
nearer-root = record { joined = refl; distance = 0; of_nearer = root_distance two; of_node = one }
  where
    far : (ws : List ℕ) → IsWalk two.edges 0 ws 1 → 1 ≤ length ws
    far [] walk = absurd (omega (arith, walk))
    far (w ∷ ws) walk = omega arith

    one : IsDistance two 1 1
    one = record { walk = (1 ∷ [], (refl, refl), refl); least = far }

nearer_not-other : ¬ IsNearer two 0 1
nearer_not-other n = let near : n.distance + 1 ≤ 0 = n.of_node.least [] refl in omega (arith, near)

-- ---- values of a file

bad-end : has_bad_end (pos 2) ((pos 0, pos 1) ∷ (pos 1, pos 2) ∷ []) ≡ true
bad-end = refl

bad_not-node : has_bad_end (pos 2) edge ≡ false
bad_not-node = refl

loop : has_loop ((pos 0, pos 1) ∷ (pos 2, pos 2) ∷ []) ≡ true
loop = refl

loop_not-edge : has_loop edge ≡ false
loop_not-edge = refl

double : has_double ((pos 0, pos 1) ∷ (pos 1, pos 2) ∷ (pos 2, pos 1) ∷ []) ≡ true
double = refl

double_not-edge : has_double edge ≡ false
double_not-edge = refl

names : map fault_name (TooSmall ∷ Apart ∷ []) ≡ codes "TooSmall" ∷ codes "Apart" ∷ []
names = refl

names_not-other : ¬ (fault_name NoEdge ≡ codes "BadEdge")
names_not-other e = grind (arith, e)
