-- The loans of the last minute, and how often the token came round in it.
use Rattle.std.specs.Prelude.{ℕ, ◌+◌, ◌-◌, ◌*◌, ◌/◌, ◌^◌, max, min, nat_le, nat_lt, if◌then◌else◌, ◌==◌, List, [], ◌∷◌, ◌++◌}
use Rattle.std.specs.Prelude.{length, filter, slice_get, Option, None, Some, option_and_then, unwrap_or}
use Rattle.std.specs.List.{find}
use Rattle.status_readings.specs.declared.looks.LoansSaid.{LoansSaid}
use Rattle.status_readings.specs.declared.minute.NodeLoans.{NodeLoans}
use Rattle.status_readings.specs.declared.minute.Sample.{Sample}
use Rattle.status_readings.specs.declared.minute.Rates.{Rates}

abbrev pub loan_present : NodeLoans → Option ℕ
loan_present loan = option_and_then (λ said. said.present) loan.said

-- what a node said of its loans
abbrev pub loans_at : List NodeLoans → ℕ → Option NodeLoans
loans_at loans node = find (λ loan. loan.node == node) loans

-- how long the present loan of a node has lasted
abbrev pub present_at : List NodeLoans → ℕ → Option ℕ
present_at loans node = option_and_then loan_present (loans_at loans node)

-- a count that stays at the greatest number of 64 bits
abbrev pub capped : ℕ → ℕ
capped count = min count (2 ^ 64 - 1)

-- a sample without any loan or round
abbrev pub nothing_at : ℕ → Sample
nothing_at at = record { at = at; count = 0; lately = 0; present = 0; rounds = 0 }

-- the same sample with what one node more said: counts are added, and the longest of the lengths is
-- kept
abbrev pub sample_with : LoansSaid → Sample → Sample
sample_with said s = record {
  at = s.at;
  count = capped (s.count + said.count);
  lately = max s.lately said.lately;
  present = max s.present (unwrap_or said.present 0);
  rounds = capped (s.rounds + said.rounds);
}

abbrev pub with_said : Option LoansSaid → Option Sample → Option Sample
with_said (Some said) (Some s) = Some (sample_with said s)
with_said _ _ = None

-- what all nodes said at one time; none if a node did not say it
abbrev pub sample_of : ℕ → List NodeLoans → Option Sample
sample_of at [] = Some (nothing_at at)
sample_of at (loan ∷ loans) = with_said loan.said (sample_of at loans)

-- a sample is added, and those that are more than a minute older are dropped
abbrev pub with_sample : Sample → List Sample → List Sample
with_sample new samples = filter (λ old. nat_le (new.at - 60000) old.at) samples ++ new ∷ []

-- how many there were in ten seconds on average, if there were `count` in `millis` milliseconds
abbrev pub in_ten_seconds : ℕ → ℕ → ℕ
in_ten_seconds count millis = capped (count * 10000) / max millis 1

-- the rates between two samples; `present` is the length of the longest loan that was seen while it
-- stood
abbrev pub rates_between : Sample → Sample → ℕ → Rates
rates_between first last present = record {
  tenths = in_ten_seconds (last.count - first.count) (last.at - first.at);
  longest = max last.lately present;
  rounds = in_ten_seconds (last.rounds - first.rounds) (last.at - first.at);
}

-- the longest time for which a loan was seen to last while it still stood
abbrev pub longest_present : List Sample → ℕ
longest_present [] = 0
longest_present (s ∷ samples) = max s.present (longest_present samples)

abbrev pub between_ends : Option Sample → Option Sample → ℕ → Option Rates
between_ends (Some first) (Some last) present = Some (rates_between first last present)
between_ends _ _ present = None

-- the rates between the first and the last sample, if there are two samples or more
abbrev pub rates_of : List Sample → Option Rates
rates_of samples =
    if nat_lt (length samples) 2 then None
    else between_ends (slice_get samples 0) (slice_get samples (length samples - 1)) (longest_present samples)
