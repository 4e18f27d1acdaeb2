-- Words below a node keep clear of all nodes.
use Rattle.std.proofs.Common.{◌≡◌, ◌∙◌, ℕ, ◌+◌, ◌*◌, ◌≤◌, ◌<◌, ◌⊎◌, IsTrue, inl, inr, subst, sym, arith}
use Rattle.std.proofs.Math.Nat.{mul-le-mul_left}
use Rattle.std.proofs.lemmas.Grind.{common_steps}
use Rattle.topology.specs.Network.{Network}
use Rattle.topology.specs.Tree.{distance_of}
use Rattle.svg_drawing.specs.Lengths.{px}
use Rattle.svg_drawing.specs.declared.canvas.Point.{Point}
use Rattle.run_film.specs.declared.stage.Stage.{Stage}
use Rattle.run_film.specs.Places.{is_clear_of, place_in, IsBelow, IsClearOfNodes, IsStage}

at_most_or_more : (a b : ℕ) → (a ≤ b) ⊎ (b + 1 ≤ a)
at_most_or_more a b = grind (arith, common_steps)

products : (q a b : ℕ) → a ≤ b → q * a ≤ q * b
products q a b most = mul-le-mul_left q most

-- a row is no lower than another, or at least 80 below it
rows_apart : (rise a b : ℕ) → 80 ≤ rise → (a ≤ b) ⊎ (b + 1 ≤ a)
    → (136 + rise * a ≤ 136 + rise * b) ⊎ ((136 + rise * b) + 80 ≤ 136 + rise * a)
rows_apart rise a b least (inl most) = inl (omega (arith, products rise a b most))
rows_apart rise a b least (inr more) = inr (omega (arith, products rise (b + 1) a more, least))

clear_above : (node at : Point) (half : ℕ) → node.y.0 + 31 < at.y.0 → IsTrue (is_clear_of node at half)
clear_above node at half above = grind (arith, common_steps, above)

clear_below : (node at : Point) (half : ℕ) → at.y.0 + 24 < node.y.0 → IsTrue (is_clear_of node at half)
clear_below node at half lower = grind (arith, common_steps, lower)

-- words so far below a row are clear of it and of those above, and of those that are 80 below it
clear_by : (node at : Point) (half row down : ℕ) → at.y.0 ≡ row + down → 31 < down → down + 24 < 80
    → (node.y.0 ≤ row) ⊎ (row + 80 ≤ node.y.0) → IsTrue (is_clear_of node at half)
clear_by node at half row down there some few (inl above) = clear_above node at half (omega (arith, there, above, some))
clear_by node at half row down there some few (inr lower) = clear_below node at half (omega (arith, there, lower, few))

by_rows : (net : Network) (stage : Stage) (v : ℕ) (at : Point) (down half : ℕ) → IsStage net stage → v < net.nodes
    → at.y.0 ≡ (place_in stage v).y.0 + down → 31 < down → down + 24 < 80 → IsClearOfNodes net stage at half
by_rows net stage v at down half stands within there some few = λ u below.
    clear_by (place_in stage u) at half (place_in stage v).y.0 down there some few
    (subst (λ y. (y ≤ (place_in stage v).y.0) ⊎ ((place_in stage v).y.0 + 80 ≤ y)) (sym (stands.heights u below))
    (subst (λ y. (136 + stands.rise * distance_of net u ≤ y) ⊎ (y + 80 ≤ 136 + stands.rise * distance_of net u)) (sym (stands.heights v within))
    (rows_apart stands.rise (distance_of net u) (distance_of net v) stands.some (at_most_or_more (distance_of net u) (distance_of net v)))))

-- a length that is not too great is as it is
as_it_is : (row down : ℕ) → row < 10000000 → down < 80 → px (row + down) ≡ row + down
as_it_is row down few less = grind (arith, common_steps)

pub below_clear : (net : Network) (stage : Stage) (v : ℕ) (at : Point) (half : ℕ) → IsStage net stage → v < net.nodes
    → IsBelow (place_in stage v).y.0 at.y.0 → IsClearOfNodes net stage at half
below_clear net stage v at half stands within (inl one) =
    by_rows net stage v at 36 half stands within (one ∙ as_it_is (place_in stage v).y.0 36 (stands.few v within) (omega arith)) (omega arith) (omega arith)
below_clear net stage v at half stands within (inr two) =
    by_rows net stage v at 48 half stands within (two ∙ as_it_is (place_in stage v).y.0 48 (stands.few v within) (omega arith)) (omega arith) (omega arith)
