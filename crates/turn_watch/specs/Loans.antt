-- How long the loans of a node are, in microseconds of a clock that never goes back.
use Rattle.std.specs.Prelude.{ℕ, ◌-◌, Bool, true, false, ◌||◌, not, max, Option, None, Some}
use Rattle.turn_watch.specs.declared.loans.DeskSight.{DeskSight}
use Rattle.turn_watch.specs.declared.loans.LoanTimes.{LoanTimes}
use Rattle.turn_watch.specs.declared.turns.Lately.{Lately}
use Rattle.turn_watch.specs.Turns.{one_more, none_kept, gap_noted}

-- nothing was lent yet
abbrev pub no_loans : LoanTimes
no_loans = record { count = 0; longest = 0; since = None; lately = none_kept 0 }

-- how long a loan that began then has lasted
abbrev pub loan_length : ℕ → ℕ → ℕ
loan_length now since = now - since

abbrev pub longest_with : ℕ → Option ℕ → ℕ → ℕ
longest_with now None longest = longest
longest_with now (Some since) longest = max longest (loan_length now since)

-- the longest loans of the last minute, with one that began then and ended now
abbrev pub lately_with : ℕ → Option ℕ → Lately → Lately
lately_with now None lately = lately
lately_with now (Some since) lately = gap_noted now (loan_length now since) lately

-- the present loan ended, if there is one
abbrev pub loan_ended : ℕ → LoanTimes → LoanTimes
loan_ended now l = record l {
  longest = longest_with now l.since l.longest;
  since = None;
  lately = lately_with now l.since l.lately;
}

abbrev pub since_or : ℕ → Option ℕ → Option ℕ
since_or now None = Some now
since_or now (Some since) = Some since

-- a loan began, unless one runs
abbrev pub loan_begun : ℕ → LoanTimes → LoanTimes
loan_begun now l = record l { since = since_or now l.since }

-- the loan before is over if another began in the turn, or the lock is not lent now
abbrev pub ended_if : Bool → ℕ → LoanTimes → LoanTimes
ended_if true now l = loan_ended now l
ended_if false now l = l

abbrev pub counted_if : Bool → LoanTimes → LoanTimes
counted_if true l = record l { count = one_more l.count }
counted_if false l = l

abbrev pub begun_if : Bool → ℕ → LoanTimes → LoanTimes
begun_if true now l = loan_begun now l
begun_if false now l = l

-- what a turn's end shows of the desk. A loan that began and ended within one turn counts, and has no length
abbrev pub desk_seen : ℕ → DeskSight → LoanTimes → LoanTimes
desk_seen now desk l =
    begun_if desk.lends now (counted_if desk.has_granted
    (ended_if (desk.has_granted || not desk.lends) now l))
