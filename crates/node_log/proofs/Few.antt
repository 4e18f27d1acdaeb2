-- At most 20 lines are said in a second.
use Rattle.std.proofs.Common.{◌≡◌, ◌≤◌, ◌+◌, ◌-◌, ℕ, true, ◌==◌, is_some, if◌then◌else◌, List, [], ◌∷◌, length, filter, arith}
use Rattle.std.proofs.lemmas.Grind.{common_steps}
use Rattle.std.proofs.lemmas.Bool.Decides.{nat_tests}
use Rattle.std.specs.List.{list_all}
use Rattle.node_log.specs.declared.rate.LineRate.{LineRate}
use Rattle.node_log.specs.Rate.{second_of, answer_at, rate_after, answers}
use Rattle.node_log.specs.Laws.{is_said}

-- how many lines may still be said in a second
abbrev left : ℕ → LineRate → ℕ
left second rate = if second == rate.second then 20 - rate.said else 20

counted : (second now : ℕ) (rate : LineRate) → (second_of now == second) ≡ true
    → (if is_said (is_some (answer_at now rate)) then 1 else 0) + left second (rate_after now rate) ≤ left second rate
counted second now rate h = grind (arith, common_steps, nat_tests)

few-left : (second : ℕ) (rate : LineRate) → left second rate ≤ 20
few-left second rate = grind (arith, common_steps, nat_tests)

few : (rate : LineRate) (second : ℕ) (instants : List ℕ) → list_all (λ now. second_of now == second) instants ≡ true
    → length (filter is_said (answers rate instants)) ≤ left second rate
few rate second [] h = omega arith
few rate second (now ∷ rest) h =
    let first : (second_of now == second) ≡ true = grind (arith, common_steps) in
    let others : list_all (λ one. second_of one == second) rest ≡ true = grind (arith, common_steps) in
    let one : _ = counted second now rate first in
    let more : _ = few (rate_after now rate) second rest others in
    grind (arith, common_steps)

pub at_most_twenty : (rate : LineRate) (second : ℕ) (instants : List ℕ)
    → list_all (λ now. second_of now == second) instants ≡ true
    → length (filter is_said (answers rate instants)) ≤ 20
at_most_twenty rate second instants h =
    let most : _ = few rate second instants h in
    let bound : _ = few-left second rate in
    omega arith
