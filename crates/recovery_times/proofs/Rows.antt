-- Windows, times and words, by hand.
use Rattle.std.proofs.Common.{◌≡◌, ◌*◌, ◌++◌, Some, None, [], ◌∷◌, map, replicate, refl, codes, decimal}
use Rattle.recovery_times.specs.Times.{usual, full_of, window_of, millis_up, tenths_up}
use Rattle.recovery_times.specs.Text.{tenths_line, millis_line}
use Rattle.recovery_times.specs.Reading.{micros_of}

-- 8 + 2 * 2.2 + 0.1 ms
window-usual : window_of usual ≡ 12500
window-usual = refl

-- with loans of a second, a full tick each 1000 + 2 * 2.2 ms decides
window-loan : window_of (record usual { loan = 1000000 }) ≡ 1004400
window-loan = refl

-- a loan of 8.1 ms is the longest that costs nothing
window-short_loan : map (λ loan. window_of (record usual { loan = loan })) (0 ∷ 8100 ∷ []) ≡ 12500 ∷ 12500 ∷ []
window-short_loan = refl

window-longer_loan : window_of (record usual { loan = 8101 }) ≡ 12501
window-longer_loan = refl

-- a loan of 8.1 ms and two turns
full-usual : full_of usual ≡ 12500
full-usual = refl

-- each turn has a full tick if no node lends
full-no_loan : full_of (record usual { loan = 0 }) ≡ 2200
full-no_loan = refl

full-loan : full_of (record usual { loan = 1 }) ≡ 4401
full-loan = refl

-- a ring of three has 51 windows, which are 637.5 ms; then a square, a line of eight, and a star
windows : map (λ windows. millis_up (windows * window_of usual)) (51 ∷ 71 ∷ 155 ∷ 1027 ∷ []) ≡ 638 ∷ 888 ∷ 1938 ∷ 12838 ∷ []
windows = refl

-- 51 * 1004.4 ms are 51224.4 ms
ring-of-three-loan : millis_up (51 * window_of (record usual { loan = 1000000 })) ≡ 51225
ring-of-three-loan = refl

whole-millis : millis_up 8000 ≡ 8
whole-millis = refl

tenths-whole : tenths_up 12500 ≡ 125
tenths-whole = refl

tenths-more : tenths_up 12501 ≡ 126
tenths-more = refl

-- ---- lines

tenths-shown : tenths_line (codes "window") 12500 ≡ codes "window " ++ (decimal 12 ++ (codes "." ++ (decimal 5 ++ codes " ms\n")))
tenths-shown = refl

tenths-none : tenths_line (codes "window") 13000 ≡ codes "window " ++ (decimal 13 ++ (codes "." ++ (decimal 0 ++ codes " ms\n")))
tenths-none = refl

tenths-rounded : tenths_line (codes "window") 12901 ≡ codes "window " ++ (decimal 13 ++ (codes "." ++ (decimal 0 ++ codes " ms\n")))
tenths-rounded = refl

millis-shown : millis_line (codes "lends within") 400000 ≡ codes "lends within " ++ (decimal 400 ++ codes " ms\n")
millis-shown = refl

millis-rounded : millis_line (codes "recovers within") 637500 ≡ codes "recovers within " ++ (decimal 638 ++ codes " ms\n")
millis-rounded = refl

-- ---- words

times : map micros_of (codes "2.2" ∷ codes "8" ∷ codes "0.125" ∷ codes "10.05" ∷ codes "0" ∷ codes "3600000.000" ∷ [])
    ≡ map Some (2200 ∷ 8000 ∷ 125 ∷ 10050 ∷ 0 ∷ 3600000000 ∷ [])
times = refl

-- more than an hour, too many decimals or none, no whole part, two points, a zero in front, a sign, and other words
no-times : map micros_of (codes "3600000.001" ∷ codes "3600001" ∷ codes "2.2001" ∷ codes "2." ∷ codes ".5" ∷ codes "2.2.2" ∷ codes "02.2"
    ∷ codes "-1" ∷ codes "+1" ∷ codes "ms" ∷ codes "2,2" ∷ [] ∷ []) ≡ replicate 12 None
no-times = refl
