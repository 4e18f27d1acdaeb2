-- Lengths on a page, in its units.
use Rattle.std.specs.Prelude.{ℕ, min}

-- a length is at most what 32 bits hold
abbrev pub px : ℕ → ℕ
px length = min length 4294967295
