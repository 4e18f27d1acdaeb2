-- The legs of the tour one by one: the three values of a leg, what its machine sees, and how one
-- leg follows another.
use Rattle.std.specs.Prelude.{◌≡◌, ℕ, ◌-◌, ◌*◌, ◌<◌, ◌⊎◌, Bool, ◌==◌, IsTrue, IsFalse, List, [], ◌∷◌, length}
use Rattle.topology.specs.Network.{Network, IsAcceptedNetwork}
use Rattle.tree_convergence.specs.euler_ring.Cycle.{is_on, next_after, source_for, special, is_named}
use Rattle.tree_convergence.specs.euler_ring.Laws.{true_neighbours}
use Rattle.run_model.specs.World.{World}
use Rattle.convergence.specs.Ring.{Leg, legs}

-- t is a neighbour of v on the true tree
abbrev pub is_on_tree : Network → ℕ → ℕ → Bool
is_on_tree net v t = is_on (true_neighbours net v) t

-- the leg's machine is the special one: that of the root for its smallest neighbour on the true
-- tree
abbrev pub is_special_leg : Network → Leg → Bool
is_special_leg net leg =
    is_named (special (leg.here == net.root) (true_neighbours net leg.here)) leg.from

-- the value of a leg's machine
abbrev pub machine_value : World → Leg → ℕ
machine_value w leg = (w.node leg.here).value leg.from

-- what that machine's node has staged for the node that the leg goes on to
abbrev pub staged_value : World → Leg → ℕ
staged_value w leg = ((w.node leg.here).port leg.onward).staged.ring

-- what that node has copied
abbrev pub copied_value : World → Leg → ℕ
copied_value w leg = ((w.node leg.onward).port leg.here).copy.ring

-- what the leg's machine sees: the copy from the node that the leg comes from
abbrev pub seen_value : World → Leg → ℕ
seen_value w leg = ((w.node leg.here).port leg.from).copy.ring

-- what that node has staged for the leg's machine
abbrev pub coming_value : World → Leg → ℕ
coming_value w leg = ((w.node leg.from).port leg.here).staged.ring

-- each leg begins with the last step of the leg before it; the first follows `before`
abbrev pub IsFollowed : Leg → List Leg → Type 0
IsFollowed before [] = Unit {0}
IsFollowed before (leg ∷ legs) =
    ((leg.from ≡ before.here) × (leg.here ≡ before.onward)) × IsFollowed leg legs

-- the last of a leg and its followers
abbrev pub last_leg : Leg → List Leg → Leg
last_leg leg [] = leg
last_leg leg (next ∷ legs) = last_leg next legs

-- the leg is one of a list
abbrev pub IsAmong : Leg → List Leg → Type 0
IsAmong leg [] = ⊥
IsAmong leg (next ∷ legs) = (leg ≡ next) ⊎ IsAmong leg legs

-- A leg of the true tree comes from a tree neighbour of its node and goes on to the tree neighbour
-- after that one.
pub record IsTreeLeg (net : Network) (leg : Leg) : Type 0 where
  pub here_in : leg.here < net.nodes
  pub from : IsTrue (is_on_tree net leg.here leg.from)
  pub onward : IsTrue (is_on_tree net leg.here leg.onward)
  pub next : leg.onward ≡ next_after (true_neighbours net leg.here) leg.from
  pub source : source_for (true_neighbours net leg.here) leg.onward ≡ leg.from

-- The legs of a network's tour: they form a closed ring of legs of the true tree, one for each of
-- its machines; only the first is the special machine's; and there are two for each edge of the
-- tree.
pub record IsTour (net : Network) : Type 0 where
  pub first : Leg
  pub others : List Leg
  pub are : legs net ≡ first ∷ others
  pub closed : IsFollowed (last_leg first others) (first ∷ others)
  pub tree : (leg : Leg) → IsAmong leg (first ∷ others) → IsTreeLeg net leg
  pub first_special : IsTrue (is_special_leg net first)
  pub others_not : (leg : Leg) → IsAmong leg others → IsFalse (is_special_leg net leg)
  pub every : (v t : ℕ) → v < net.nodes → IsTrue (is_on_tree net v t)
      → (leg : Leg) × IsAmong leg (first ∷ others) × (leg.from ≡ t) × (leg.here ≡ v)
  pub count : length (first ∷ others) ≡ 2 * (net.nodes - 1)

-- each accepted network has such a tour
abbrev pub EachTour : Type 0
EachTour = (net : Network) → IsAcceptedNetwork net → IsTour net
