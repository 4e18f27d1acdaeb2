-- Numbers with three decimals.
use Rattle.std.specs.Prelude.{ℕ, ◌/◌, ◌%◌, List, ◌++◌, codes, decimal}

-- this many thousandths, as a number with three decimals
abbrev pub thousandths_text : ℕ → List ℕ
thousandths_text number =
    decimal (number / 1000) ++ (codes "." ++ (decimal (number / 100 % 10)
    ++ (decimal (number / 10 % 10) ++ decimal (number % 10))))

-- microseconds as milliseconds with three decimals
abbrev pub millis_text : ℕ → List ℕ
millis_text micros = thousandths_text micros
