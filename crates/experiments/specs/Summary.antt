-- The least, the median and the most of some numbers.
use Rattle.std.specs.Prelude.{◌≡◌, ℕ, ◌-◌, ◌/◌, ◌<◌, List, [], length, slice_index, Option, Some, None}
use Rattle.std.specs.Ordering.{nat_cmp}
use Rattle.std.specs.List.Sorted.{IsPermutation, IsSorted}
use Rattle.experiments.specs.declared.summary.ThreeNumberSummary.{ThreeNumberSummary}

-- In ascending order they are the first number, the one in the middle, and the last; of an even
-- count, the lower one of the two in the middle.
pub record IsSummary (numbers : List ℕ) (s : ThreeNumberSummary) : Type 0 where
  pub some : 0 < length numbers
  pub ascending : List ℕ
  pub same : IsPermutation numbers ascending
  pub sorted : IsSorted nat_cmp ascending
  pub least : s.least ≡ slice_index ascending 0
  pub median : s.median ≡ slice_index ascending ((length numbers - 1) / 2)
  pub most : s.most ≡ slice_index ascending (length numbers - 1)

-- that of some numbers; of no numbers there is none
abbrev pub IsSummaryOf : List ℕ → Option ThreeNumberSummary → Type 0
IsSummaryOf numbers None = numbers ≡ []
IsSummaryOf numbers (Some s) = IsSummary numbers s
