-- What a fuse does: it fails the call after a chosen number of others, and that one alone.
use Rattle.std.specs.Prelude.{◌≡◌, ℕ, zero, suc, Option, None, Some, Result, IsErr}

-- the calls that pass before the one that fails, after one more call; none once it has failed
abbrev pub left_after : Option ℕ → Option ℕ
left_after None = None
left_after (Some zero) = None
left_after (Some (suc calls)) = Some calls

-- how often a fuse has failed: once, if no call is left before the one that fails
abbrev pub failures_of : Option ℕ → ℕ
failures_of None = 1
failures_of (Some calls) = 0

-- a call uses up one of those that a fuse lets pass; the one that fails does not reach what is held
abbrev pub Passes : {T X E : Type 0} → Option ℕ → Option ℕ → T → T → Result X E → Type 0
Passes left after old new result =
    (after ≡ left_after left) × (left ≡ Some 0 → IsErr result × (new ≡ old))
