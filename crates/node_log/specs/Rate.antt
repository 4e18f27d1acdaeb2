-- How many lines are said in a second.
use Rattle.std.specs.Prelude.{ℕ, Bool, ◌+◌, ◌/◌, ◌==◌, nat_lt, is_some, if◌then◌else◌, Option, None, Some, List, [], ◌∷◌}
use Rattle.node_log.specs.declared.rate.LineRate.{LineRate}

-- nothing was said
abbrev pub new_rate : LineRate
new_rate = record { second = 0; said = 0; left_out = 0 }

-- the second in which an instant, in microseconds, lies
abbrev pub second_of : ℕ → ℕ
second_of now = now / 1000000

-- how many lines were said in the second of an instant
abbrev pub said_in : ℕ → LineRate → ℕ
said_in now rate = if second_of now == rate.second then rate.said else 0

-- a line is said if fewer than 20 were in its second, and says how many were left out before it
abbrev pub answer_at : ℕ → LineRate → Option ℕ
answer_at now rate = if nat_lt (said_in now rate) 20 then Some rate.left_out else None

abbrev pub rate_after : ℕ → LineRate → LineRate
rate_after now rate =
    if nat_lt (said_in now rate) 20
    then record { second = second_of now; said = said_in now rate + 1; left_out = 0 }
    else record {
      second = second_of now;
      said = said_in now rate;
      left_out = if nat_lt rate.left_out 18446744073709551615 then rate.left_out + 1 else 18446744073709551615;
    }

-- which of the lines of these instants are said, one after the other
abbrev pub answers : LineRate → List ℕ → List Bool
answers rate [] = []
answers rate (now ∷ rest) = is_some (answer_at now rate) ∷ answers (rate_after now rate) rest
