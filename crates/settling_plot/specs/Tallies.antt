-- How many runs have each number.
use Rattle.std.specs.Prelude.{◌≡◌, ℕ, ◌+◌, ◌<◌, ◌==◌, nat_le, if◌then◌else◌, List, length, slice_index_or}
use Rattle.std.specs.List.{count_by}

-- how many of the numbers are this one
abbrev pub runs_at : List ℕ → ℕ → ℕ
runs_at numbers n = count_by (λ k. k == n) numbers

-- how many of them are this one or less: the value of the distribution there, in runs
abbrev pub runs_by : List ℕ → ℕ → ℕ
runs_by numbers n = count_by (λ k. nat_le k n) numbers

-- the tally has a place for each number up to the last; it shows how many of the numbers are that
-- one
pub record IsTally (numbers : List ℕ) (last : ℕ) (tally : List ℕ) : Type 0 where
  pub places : length tally ≡ last + 1
  pub counts : (n : ℕ) → n < length tally → slice_index_or tally n 0 ≡ runs_at numbers n

-- after one more number, its place, if it has one, shows one more, and the other places show what
-- they did before
pub record IsCountedIn (old : List ℕ) (number : ℕ) (new : List ℕ) : Type 0 where
  pub places : length new ≡ length old
  pub counts : (n : ℕ) → n < length old → slice_index_or new n 0 ≡ slice_index_or old n 0 + (if number == n then 1 else 0)
