-- How long a program that holds the lock waits.
use Rattle.std.specs.Prelude.{ℕ, ◌/◌, min, max, Bool, true, false, Option, Some, None}

-- a sixteenth of the command's age, 1 to 25 milliseconds
abbrev pub child_rest : ℕ → ℕ
child_rest age = max 1 (min (age / 16) 25)

-- the longest rest: by the age of a running command; a tenth of a second if signals are held back;
-- else a second
abbrev pub longest_of : Option ℕ → Bool → ℕ
longest_of (Some age) signals = child_rest age
longest_of None true = 100
longest_of None false = 1000

-- that, or less if something is due
abbrev pub rest_of : Option ℕ → Option ℕ → Bool → ℕ
rest_of age None signals = longest_of age signals
rest_of age (Some left) signals = min left (longest_of age signals)
