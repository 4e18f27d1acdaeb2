-- Small rings, and what holds of them
use Rattle.std.proofs.Common.{◌≡◌, ℕ, [], ◌∷◌, refl, arith, rules, true, false, map}
use Rattle.k_state.specs.Machine.{root_moved, is_privileged}
use Rattle.k_state.specs.Ring.{Written, Further, Moved, Run, Done, Move_first, Change_first, IsParallel}
use Rattle.k_state.specs.Ring.{IsGood, IsFresh, HasFront, head_of, is_privileged_at}
use Rattle.k_state.specs.Ages.{age, HasFallingAges}
use Rattle.k_state.proofs.Parallel.{joined}

last_value_wraps : root_moved 6 7 ≡ 0
last_value_wraps = refl

special_where_equal : (is_privileged true 3 3 ≡ true) × (is_privileged true 3 4 ≡ false)
special_where_equal = (refl, refl)

other_where_different : (is_privileged false 3 3 ≡ false) × (is_privileged false 3 4 ≡ true)
other_where_different = (refl, refl)

-- the head is the first item, neither the last nor the least nor the greatest
head-first : head_of (2 ∷ 5 ∷ 0 ∷ []) ≡ 2
head-first = refl

head_not-last : ¬ (head_of (2 ∷ 5 ∷ 0 ∷ []) ≡ 0)
head_not-last e = grind (arith, e)

-- the only item is the head
head-alone : head_of (4 ∷ []) ≡ 4
head-alone = refl

good : IsGood 7 (2 ∷ 2 ∷ 2 ∷ 1 ∷ 1 ∷ 1 ∷ [])
good = search rules

good_across_zero : IsGood 7 (0 ∷ 6 ∷ 6 ∷ [])
good_across_zero = search rules

good_all_equal : IsGood 7 (3 ∷ 3 ∷ 3 ∷ [])
good_all_equal = search rules

not_good_back_again : IsGood 7 (2 ∷ 1 ∷ 2 ∷ []) → ⊥
not_good_back_again h = grind arith

not_good_two_below : IsGood 7 (2 ∷ 2 ∷ 0 ∷ []) → ⊥
not_good_two_below h = grind arith

not_good_one_above : IsGood 7 (2 ∷ 3 ∷ []) → ⊥
not_good_one_above h = grind arith

fresh : IsFresh (2 ∷ 5 ∷ 0 ∷ 5 ∷ [])
fresh = search (rules, arith)

not_fresh : IsFresh (2 ∷ 5 ∷ 2 ∷ []) → ⊥
not_fresh h = h.1.0 refl

front : HasFront 2 (2 ∷ 2 ∷ 5 ∷ 0 ∷ [])
front = search (rules, arith)

-- each item at once takes what stood at its left: the one value 2 goes on by one place
parallel : IsParallel 2 (1 ∷ 1 ∷ []) (2 ∷ 1 ∷ [])
parallel = search rules

not_parallel_two_places : IsParallel 2 (1 ∷ 1 ∷ []) (2 ∷ 2 ∷ []) → ⊥
not_parallel_two_places h = grind arith

-- one head move, and the ring is good
turns_good : Run 3 1 (0 ∷ 2 ∷ 0 ∷ []) (1 ∷ 0 ∷ 0 ∷ [])
turns_good = Change_first Written (Move_first (Moved refl) Done)

-- two values are too few for four items: two head moves lead back to a ring that is not good, and
-- so may the next two
half_round : (a b : ℕ) → root_moved a 2 ≡ b → Run 2 1 (a ∷ b ∷ a ∷ b ∷ []) (b ∷ a ∷ b ∷ a ∷ [])
half_round a b e =
    let moved : Run 2 1 (a ∷ a ∷ b ∷ a ∷ []) (b ∷ a ∷ b ∷ a ∷ []) = rw (← e) (Move_first (Moved refl) Done) in
    Change_first (Further (Further Written)) (Change_first (Further Written) (Change_first Written moved))

too_few_values : Run 2 2 (0 ∷ 1 ∷ 0 ∷ 1 ∷ []) (0 ∷ 1 ∷ 0 ∷ 1 ∷ [])
too_few_values = joined 2 (half_round 0 1 refl) (half_round 1 0 refl)

not_good_after_two_moves : IsGood 2 (0 ∷ 1 ∷ 0 ∷ 1 ∷ []) → ⊥
not_good_after_two_moves h = grind arith

-- the head went from 5 on to 6 and 0: these are of ages 0, 1 and 2
ages_of_values : (age 7 5 5 ≡ 0) × (age 7 5 6 ≡ 1) × (age 7 5 0 ≡ 2)
ages_of_values = (refl, refl, refl)

ages_fall : HasFallingAges 7 5 (0 ∷ 0 ∷ 6 ∷ 6 ∷ 5 ∷ [])
ages_fall = search (rules, arith)

-- 4 is none of the values that the head has had: of all ages its own is the greatest
not_falling_initial : HasFallingAges 7 5 (0 ∷ 6 ∷ 4 ∷ []) → ⊥
not_falling_initial h = grind arith

not_falling_back_again : HasFallingAges 7 5 (0 ∷ 6 ∷ 0 ∷ []) → ⊥
not_falling_back_again h = grind arith

-- if ages fall, the head moves only once all items have its value
falling_turns_good : Run 7 1 (0 ∷ 6 ∷ 5 ∷ []) (1 ∷ 0 ∷ 0 ∷ [])
falling_turns_good =
    let all_equal : Run 7 1 (0 ∷ 0 ∷ 0 ∷ []) (1 ∷ 0 ∷ 0 ∷ []) = Move_first (Moved refl) Done in
    let two_equal : Run 7 1 (0 ∷ 0 ∷ 5 ∷ []) (1 ∷ 0 ∷ 0 ∷ []) = Change_first (Further Written) all_equal in
    Change_first Written two_equal

-- With two values for four items ages are of no use: within three head moves each item has become a
-- copy of what the head held meanwhile, and the fourth move leads to a ring that is not good.
copied_all : Run 2 3 (0 ∷ 1 ∷ 0 ∷ 1 ∷ []) (1 ∷ 0 ∷ 1 ∷ 0 ∷ [])
copied_all = joined 2 too_few_values (half_round 0 1 refl)

copied_all_and_moved : Run 2 1 (1 ∷ 0 ∷ 1 ∷ 0 ∷ []) (0 ∷ 1 ∷ 0 ∷ 1 ∷ [])
copied_all_and_moved = half_round 1 0 refl

not_falling_with_two_values : HasFallingAges 2 0 (1 ∷ 0 ∷ 1 ∷ 0 ∷ []) → ⊥
not_falling_with_two_values h = grind arith

-- in a good ring the item after the boundary alone is privileged, and the head if there is none
privileged_at_boundary : map (is_privileged_at (2 ∷ 2 ∷ 1 ∷ 1 ∷ [])) (0 ∷ 1 ∷ 2 ∷ 3 ∷ []) ≡ false ∷ false ∷ true ∷ false ∷ []
privileged_at_boundary = refl

privileged_at_head : map (is_privileged_at (2 ∷ 2 ∷ 2 ∷ [])) (0 ∷ 1 ∷ 2 ∷ []) ≡ true ∷ false ∷ false ∷ []
privileged_at_head = refl

-- in another ring several may be
privileged_everywhere : map (is_privileged_at (2 ∷ 0 ∷ 5 ∷ 2 ∷ [])) (0 ∷ 1 ∷ 2 ∷ 3 ∷ []) ≡ true ∷ true ∷ true ∷ true ∷ []
privileged_everywhere = refl
