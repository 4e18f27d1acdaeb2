-- The three lines that show a window and the times, with one space between words.
use Rattle.std.specs.Prelude.{ℕ, ◌/◌, ◌%◌, List, ◌++◌, codes, decimal}
use Rattle.topology.specs.Network.{Network}
use Rattle.recovery_times.specs.declared.premises.Premises.{Premises}
use Rattle.recovery_times.specs.Times.{window_of, recovery_of, lending_of, millis_up, tenths_up}

-- a line of words and of a time in tenths of a millisecond
abbrev pub tenths_line : List ℕ → ℕ → List ℕ
tenths_line words micros =
    words
    ++ (codes " " ++ (decimal (tenths_up micros / 10)
    ++ (codes "." ++ (decimal (tenths_up micros % 10) ++ codes " ms\n"))))

-- a line of words and of a time in whole milliseconds
abbrev pub millis_line : List ℕ → ℕ → List ℕ
millis_line words micros = words ++ (codes " " ++ (decimal (millis_up micros) ++ codes " ms\n"))

-- the window, the time after which the network serves, and that within which it lends to one who
-- waits alone
abbrev pub times_text : Network → Premises → List ℕ
times_text net p =
    tenths_line (codes "window") (window_of p)
    ++ (millis_line (codes "recovers within") (recovery_of net p)
    ++ millis_line (codes "lends within") (lending_of net 0 p))
