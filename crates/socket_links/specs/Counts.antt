-- The counts of a pipe's answers.
use Rattle.std.specs.Prelude.{ℕ, ◌≤◌, ◌⊎◌}
use Rattle.byte_streams.specs.Streams.{Rose}

-- how often a pipe answered Later, Closed and Failed; a count may stay at 2^64 - 1
pub record Counts : Type 0 where
  pub later : ℕ
  pub closed : ℕ
  pub failed : ℕ

-- the pipe closed or failed: that count rose
abbrev pub HasEnded : Counts → Counts → Type 0
HasEnded before after = Rose before.closed after.closed ⊎ Rose before.failed after.failed

-- no count fell
abbrev pub NoneFell : Counts → Counts → Type 0
NoneFell before after =
    (before.later ≤ after.later) × (before.closed ≤ after.closed) × (before.failed ≤ after.failed)
