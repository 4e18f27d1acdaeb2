-- Small graphs of each kind, drawn by hand.
use Rattle.std.proofs.Common.{◌≡◌, [], ◌∷◌, refl}
use Rattle.network_kinds.specs.Made.{edges_of}
use Rattle.network_kinds.specs.declared.kind.Kind.TheVariants.{Line, Ring, Star, Complete, Tree, Grid}

line_of_three : edges_of Line 3 ≡ (0, 1) ∷ (1, 2) ∷ []
line_of_three = refl

ring_of_four : edges_of Ring 4 ≡ (0, 1) ∷ (1, 2) ∷ (0, 3) ∷ (2, 3) ∷ []
ring_of_four = refl

star_of_four : edges_of Star 4 ≡ (0, 1) ∷ (0, 2) ∷ (0, 3) ∷ []
star_of_four = refl

complete_of_four : edges_of Complete 4 ≡ (0, 1) ∷ (0, 2) ∷ (1, 2) ∷ (0, 3) ∷ (1, 3) ∷ (2, 3) ∷ []
complete_of_four = refl

tree_of_six : edges_of Tree 6 ≡ (0, 1) ∷ (0, 2) ∷ (1, 3) ∷ (1, 4) ∷ (2, 5) ∷ []
tree_of_six = refl

-- two rows of three nodes: 0 1 2 above 3 4 5
grid_of_six : edges_of (Grid 3) 6 ≡ (0, 1) ∷ (1, 2) ∷ (0, 3) ∷ (1, 4) ∷ (3, 4) ∷ (2, 5) ∷ (4, 5) ∷ []
grid_of_six = refl

-- three rows of one node each are a line
grid_of_three : edges_of (Grid 1) 3 ≡ (0, 1) ∷ (1, 2) ∷ []
grid_of_three = refl
