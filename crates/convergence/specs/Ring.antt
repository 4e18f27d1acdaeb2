-- The token ring: Dijkstra's ring of K-state machines, laid along the Euler tour of the true tree
-- (Dijkstra 1974).
use Rattle.std.specs.Prelude.{ℕ, List, [], ◌∷◌, flat_map}
use Rattle.topology.specs.Network.{Network, ring_of}
use Rattle.k_state.specs.Ring.{IsGood}
use Rattle.tree_convergence.specs.euler_ring.Tour.{tour}
use Rattle.run_model.specs.World.{World}

-- A leg of the tour comes from one node to another, and goes on to a third, which may be the first
-- again.
pub record Leg : Type 0 where
  pub from : ℕ
  pub here : ℕ
  pub onward : ℕ

-- the legs of a part of the tour whose last pair goes on to `end`
abbrev pub legs_to : ℕ → List (ℕ × ℕ) → List Leg
legs_to end [] = []
legs_to end (p ∷ []) = record { from = p.0; here = p.1; onward = end } ∷ []
legs_to end (p ∷ q ∷ rest) =
    record { from = p.0; here = p.1; onward = q.1 } ∷ legs_to end (q ∷ rest)

-- the node that the first pair of a closed tour comes to; its last pair goes on to it
abbrev pub first_here : List (ℕ × ℕ) → ℕ
first_here [] = 0
first_here (p ∷ rest) = p.1

-- the legs of the whole tour, which is closed
abbrev pub legs : Network → List Leg
legs net = legs_to (first_here (tour net)) (tour net)

-- The three values of a leg: the value of its machine, what is staged for the node that the tour
-- goes on to, and what that node has copied.
abbrev pub leg_values : World → Leg → List ℕ
leg_values w leg =
    (w.node leg.here).value leg.from
    ∷ ((w.node leg.here).port leg.onward).staged.ring
    ∷ ((w.node leg.onward).port leg.here).copy.ring
    ∷ []

-- the values of all machines, staged slots and copies in the order of the tour; the head is the
-- special machine's
abbrev pub token_ring : World → List ℕ
token_ring w = flat_map (leg_values w) (legs w.net)

-- the token ring is good: first values equal to the head's, and then only values that are one
-- less, modulo K
abbrev pub IsTokenRingGood : World → Type 0
IsTokenRingGood w = IsGood (ring_of w.net) (token_ring w)
