-- Laws of a node's log.
use Rattle.std.specs.Prelude.{◌≡◌, ◌≤◌, ℕ, Bool, ◌==◌, true, None, List, filter, length}
use Rattle.std.specs.List.{list_all}
use Rattle.node_log.specs.declared.event.NodeEvent.{NodeEvent}
use Rattle.node_log.specs.declared.rate.LineRate.{LineRate}
use Rattle.node_log.specs.Rate.{second_of, answers}
use Rattle.node_log.specs.Turns.{admitted}

abbrev pub is_said : Bool → Bool
is_said said = said

-- of lines that all come within one second at most 20 are said, whatever was said before
abbrev pub AtMostTwentyInASecond : Type 0
AtMostTwentyInASecond =
    (rate : LineRate) (second : ℕ) (instants : List ℕ)
    → list_all (λ now. second_of now == second) instants ≡ true
    → length (filter is_said (answers rate instants)) ≤ 20

abbrev pub SaysNothingIfOff : Type 0
SaysNothingIfOff = (event : NodeEvent) (now : ℕ) (rate : LineRate) → admitted None event now rate ≡ None
