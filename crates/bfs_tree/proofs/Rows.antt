-- Small examples, by computation: some that hold, and some that do not.
use Rattle.std.proofs.Common.{◌≡◌, ℕ, ◌==◌, true, false, [], ◌∷◌, Some, None, if◌then◌else◌, refl, arith}
use Rattle.bfs_tree.specs.Stage.{is_of_stage}
use Rattle.bfs_tree.specs.Step.{has_least_copy, least, new_distance, new_parent}

-- copies of two neighbours, 1 and 2
abbrev copies : ℕ → ℕ → ℕ → ℕ
copies one two w = if w == 1 then one else two

least_of_two : least 4 (copies 3 1) (1 ∷ 2 ∷ []) ≡ 1
least_of_two = refl

-- n is the least if all copies are greater, or if nobody is listed
no_less_than_n : (least 2 (copies 3 4) (1 ∷ 2 ∷ []) ≡ 2) × (least 4 (copies 1 1) [] ≡ 4)
no_less_than_n = (refl, refl)

the_nearer_has_it : has_least_copy (copies 3 1) (1 ∷ 2 ∷ []) 2 ≡ true
the_nearer_has_it = refl

the_further_has_it_not : has_least_copy (copies 3 1) (1 ∷ 2 ∷ []) 1 ≡ false
the_further_has_it_not = refl

two_at_one : new_distance false 4 (copies 1 1) (1 ∷ 2 ∷ []) ≡ 2
two_at_one = refl

the_smaller_is_the_parent : new_parent false (copies 1 1) (1 ∷ 2 ∷ []) ≡ Some 1
the_smaller_is_the_parent = refl

never_above_n : new_distance false 4 (copies 4 4) (1 ∷ 2 ∷ []) ≡ 4
never_above_n = refl

a_parent_all_the_same : new_parent false (copies 4 4) (1 ∷ 2 ∷ []) ≡ Some 1
a_parent_all_the_same = refl

the_nearer_is_the_parent : new_parent false (copies 3 0) (1 ∷ 2 ∷ []) ≡ Some 2
the_nearer_is_the_parent = refl

one_further : new_distance false 4 (copies 3 0) (1 ∷ 2 ∷ []) ≡ 1
one_further = refl

the_root_is_at_0 : new_distance true 4 (copies 1 1) (1 ∷ 2 ∷ []) ≡ 0
the_root_is_at_0 = refl

the_root_has_no_parent : new_parent true (copies 1 1) (1 ∷ 2 ∷ []) ≡ None
the_root_has_no_parent = refl

-- not the greater of two that are as near
the_greater_is_no_parent : ¬ (new_parent false (copies 1 1) (1 ∷ 2 ∷ []) ≡ Some 2)
the_greater_is_no_parent e = grind arith

-- stage 2: 0 and 1 exact, all others 2 at least
exact_below : is_of_stage 2 1 1 ≡ true
exact_below = refl

none_else_below : is_of_stage 2 1 2 ≡ false
none_else_below = refl

far_enough : is_of_stage 2 3 2 ≡ true
far_enough = refl

too_near : is_of_stage 2 3 1 ≡ false
too_near = refl
