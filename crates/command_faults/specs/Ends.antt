-- How a command that is done ends.
use Rattle.std.specs.Prelude.{ℕ, ◌≡◌, ◌⊎◌, Result, IfOk}
use Rattle.std.specs.Process.{exit_status}
use Rattle.std.specs.declared.process.ExitCode.{ExitCode}

-- a command that is done has the status 0
abbrev pub DoneMeansZero : {E : Type 0} → Result ExitCode E → Type 0
DoneMeansZero result = IfOk result (λ status. exit_status status ≡ 0)

-- or this other status, which says that it is done but not all was well
abbrev pub DoneMeansZeroOr : {E : Type 0} → ℕ → Result ExitCode E → Type 0
DoneMeansZeroOr other result = IfOk result (λ status. (exit_status status ≡ 0) ⊎ (exit_status status ≡ other))
