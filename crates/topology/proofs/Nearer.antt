-- A node other than the root has a neighbour that is one nearer.
use Rattle.std.proofs.Common.{◌≡◌, ◌≢◌, ℕ, ◌+◌, ◌<◌, List, [], ◌∷◌, ◌++◌, length, refl, ap, sym, arith, IsTrue, length-append}
use Rattle.topology.specs.Network.{Network, Edge, are_joined, IsWalk, IsDistance, IsNearer, IsAcceptedNetwork}
use Rattle.topology.proofs.SearchByLevels.{IsWalk-push}
use Rattle.topology.proofs.Joined.{joined_back, joined_below}

-- the last step of a walk
pub last_step : (edges : List Edge) (u w : ℕ) (ws : List ℕ) (v : ℕ) → IsWalk edges u (w ∷ ws) v
    → (p : ℕ) × (xs : List ℕ) × IsWalk edges u xs p × IsTrue (are_joined edges p v) × (length ws ≡ length xs)
last_step edges u w [] v walk = (u, [], refl, rw (← walk.1) walk.0, refl)
last_step edges u w (x ∷ xs) v walk =
    let (p, ys, w1, joined, long) = last_step edges w x xs v walk.1 in
    (p, w ∷ ys, (walk.0, w1), joined, ap (λ n. Prim.Native.Nat.suc n) long)

from_walk : (net : Network) (v d : ℕ) (ws : List ℕ) → IsAcceptedNetwork net → IsDistance net v d → v ≢ net.root → IsWalk net.edges net.root ws v → length ws ≡ d → (p : ℕ) × (p < net.nodes) × IsNearer net v p
from_walk net v d [] ok dist ne walk long = absurd (ne (sym walk))
from_walk net v d (w ∷ ws) ok dist ne walk long =
    let (p, xs, before, joined, same) = last_step net.edges net.root w ws v walk in
    let d_is : d ≡ length xs + 1 = omega arith in (
      p,
      joined_below net.edges net.nodes p v ok.limits.edges_in joined,
      record {
        joined = rw (joined_back net.edges v p) joined;
        distance = length xs;
        of_nearer = record {
          walk = (xs, before, refl);
          least = λ zs h. omega (arith, dist.least (zs ++ v ∷ []) (IsWalk-push net.edges net.root zs p v h joined), length-append zs (v ∷ []));
        };
        of_node = rw (← d_is) dist;
      },
    )

pub has_nearer : (net : Network) (v d : ℕ) → IsAcceptedNetwork net → IsDistance net v d → v ≢ net.root → (p : ℕ) × (p < net.nodes) × IsNearer net v p
has_nearer net v d ok dist ne = let (ws, walk, long) = dist.walk in from_walk net v d ws ok dist ne walk long
