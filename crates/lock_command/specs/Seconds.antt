-- A time in seconds, as text.
use Rattle.std.specs.Prelude.{ℕ, ◌/◌, ◌%◌, ◌==◌, if◌then◌else◌, List, [], ◌++◌, codes, decimal}

-- what follows the whole seconds, for this many thousandths: there is no zero at the end
abbrev pub decimals_text : ℕ → List ℕ
decimals_text rest =
    if rest == 0 then []
    else if rest % 100 == 0 then codes "." ++ decimal (rest / 100)
    else if rest % 10 == 0 then codes "." ++ (decimal (rest / 100) ++ decimal (rest / 10 % 10))
    else codes "." ++ (decimal (rest / 100) ++ (decimal (rest / 10 % 10) ++ decimal (rest % 10)))

-- this many milliseconds, in seconds
abbrev pub seconds_text : ℕ → List ℕ
seconds_text millis = decimal (millis / 1000) ++ decimals_text (millis % 1000)
