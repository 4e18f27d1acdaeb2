-- The greatest distance and the bound from it, on small networks and on a large star.
use Rattle.std.proofs.Common.{◌≡◌, ℕ, ◌∷◌, [], List, map, refl, arith, length, ◌≤◌, ◌-◌, ◌+◌, ◌*◌, ap}
use Rattle.std.specs.List.{range_with_len}
use Rattle.topology.specs.Network.{Network, IsDistance, IsWalk, bound_of}
use Rattle.topology.specs.Eccentricity.{IsEccentricity, eccentricity_of, sharp_of}

-- two nodes: 0 - 1
abbrev two : Network
two = record { nodes = 2; root = 0; capacity = 1; lease = 0; edges = (0, 1) ∷ [] }

-- a line: 0 - 1 - 2, with the root at an end, and with the root in the middle
abbrev line : Network
line = record { nodes = 3; root = 0; capacity = 1; lease = 0; edges = (0, 1) ∷ (1, 2) ∷ [] }

abbrev middle : Network
middle = record line { root = 1 }

-- a square: 0 - 1, 0 - 2, 1 - 3, 2 - 3
abbrev square : Network
square = record { nodes = 4; root = 0; capacity = 1; lease = 0; edges = (0, 1) ∷ (0, 2) ∷ (1, 3) ∷ (2, 3) ∷ [] }

-- a star of n nodes with the greatest capacity, the root in its middle
abbrev star-of : ℕ → Network
star-of n = record { nodes = n; root = 0; capacity = 4096; lease = 0; edges = map (λ leaf. (0, leaf)) (range_with_len 1 (n - 1)) }

two-sharp : (eccentricity_of two ≡ 1) × (sharp_of two ≡ 35)
two-sharp = (refl, refl)

line-sharp : (eccentricity_of line ≡ 2) × (sharp_of line ≡ 55)
line-sharp = (refl, refl)

middle-sharp : (eccentricity_of middle ≡ 1) × (sharp_of middle ≡ 51)
middle-sharp = (refl, refl)

square-sharp : (eccentricity_of square ≡ 2) × (sharp_of square ≡ 71)
square-sharp = (refl, refl)

-- of a small star the distances are computed; of every other, the root being in its middle, they
-- are the same
small-star-sharp : (eccentricity_of (star-of 8) ≡ 1) × (sharp_of (star-of 8) ≡ 131)
small-star-sharp = (refl, refl)

sharp-is : (net : Network) (e : ℕ) → eccentricity_of net ≡ e → sharp_of net ≡ 16 * (net.nodes - 1) + 4 * e + 15
sharp-is net e is = ap (λ k. 16 * (net.nodes - 1) + 4 * k + 15) is

large-star-sharp : eccentricity_of (star-of 64) ≡ 1 → sharp_of (star-of 64) ≡ 1027
large-star-sharp = sharp-is (star-of 64) 1

large-star-bound : bound_of (star-of 64) ≡ 207161
large-star-bound = refl

-- a walk that leads to the far end of the line in two steps, so it is not 3 away; and none leads
-- there in one
end-not-three : IsDistance line 2 3 → ⊥
end-not-three h = absurd (omega (arith, h.least (1 ∷ 2 ∷ []) (refl, (refl, refl))))

end-two : IsDistance line 2 2
end-two = record { walk = (1 ∷ 2 ∷ [], (refl, (refl, refl)), refl); least = not-at-once }
  where
    not-at-once : (ws : List ℕ) → IsWalk line.edges 0 ws 2 → 2 ≤ length ws
    not-at-once [] walk = absurd (omega (arith, walk))
    not-at-once (w ∷ []) walk = absurd (grind arith)
    not-at-once (v ∷ w ∷ ws) walk = omega arith

line-not-one : IsEccentricity line 1 → ⊥
line-not-one h = absurd (omega (arith, h.most 2 2 (omega arith) end-two))
