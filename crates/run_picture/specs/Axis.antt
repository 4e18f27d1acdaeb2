-- The axis of events.
use Rattle.std.specs.Prelude.{◌≡◌, ℕ, zero, suc, ◌+◌, ◌-◌, ◌*◌, ◌/◌, ◌^◌, ◌<◌, ◌≤◌, ◌⊎◌, Bool, ◌&&◌, nat_lt, List, [], ◌∷◌, map, Option, None, Some, decimal}
use Rattle.std.specs.Int.{next_multiple_of}
use Rattle.std.specs.List.{flat_map, take_while}
use Rattle.run_picture.specs.declared.layout.axis.AxisNumber.{AxisNumber}
use Rattle.svg_drawing.specs.declared.canvas.Anchor.TheVariants.{Middle}
use Rattle.svg_drawing.specs.declared.colours.Colour.TheVariants.{Ink}
use Rattle.run_picture.specs.declared.layout.page.Page.{Page}
use Rattle.svg_drawing.specs.Drawn.{Shown, line_shown, words_shown, whole}
use Rattle.svg_drawing.specs.Lengths.{px}
use Rattle.run_picture.specs.Page.{x_of, ground_of}

-- the round numbers: 1, 2, 5, 10, 20, 50 and so on
abbrev pub round_number : ℕ → ℕ
round_number zero = 1
round_number (suc zero) = 2
round_number (suc (suc zero)) = 5
round_number (suc (suc (suc k))) = 10 * round_number k

-- ticks that are `step` events apart stand at least 70 apart, if a column shows `moments` moments
-- and is `width` wide
abbrev pub AreFarApart : ℕ → ℕ → ℕ → Type 0
AreFarApart moments width step = 70 * moments ≤ step * width

-- the step is the first round number at which ticks are far enough apart; it is 10^19 if there is
-- none before that
pub record IsRoundStep (moments width step : ℕ) : Type 0 where
  pub which : ℕ
  pub round : step ≡ round_number which
  pub first : (k : ℕ) → k < which → ¬ AreFarApart moments width (round_number k)
  pub far : AreFarApart moments width step ⊎ (step ≡ 10 ^ 19)

-- `count` numbers, from a given one on, each a step above the one before it
abbrev pub row_from : ℕ → ℕ → ℕ → List ℕ
row_from step number zero = []
row_from step number (suc count) = number ∷ row_from step (number + step) count

-- where the moment after `event` events is shown, if the first column begins with the moment after
-- `first` events, and each column shows `moments` moments
abbrev pub number_at : ℕ → ℕ → ℕ → AxisNumber
number_at first moments event = record { place = (event - first) / moments; event = event }

-- there is a column for it, and it is a number of 64 bits
abbrev pub is_on_axis : ℕ → AxisNumber → Bool
is_on_axis columns number = nat_lt number.place columns && nat_lt number.event (2 ^ 64)

-- The numbers of the axis: the multiples of the step from the first moment on, each at the column in
-- which its moment is shown, as far as there are columns; at most one for each column.
abbrev pub axis_numbers : ℕ → ℕ → ℕ → ℕ → List AxisNumber
axis_numbers columns first moments step =
    take_while (is_on_axis columns) (map (number_at first moments) (row_from step (next_multiple_of first step) columns))

-- a number of the axis: a tick below the curves, and below it how many events have led there
abbrev pub number_shown : Page → AxisNumber → List Shown
number_shown page number =
    line_shown (x_of page number.place) (ground_of page) (x_of page number.place) (px (ground_of page + 6)) (whole Ink 1)
    ∷ words_shown (x_of page number.place) (px (ground_of page + 20)) Middle Ink (decimal number.event) ∷ []

-- This is the axis of the columns of a page; the first of these begins with the moment after
-- `first` events, and each shows `moments` moments. Its numbers are a round step apart.
pub record IsAxis (page : Page) (first moments : ℕ) (shown : List Shown) : Type 0 where
  pub step : ℕ
  pub round : IsRoundStep moments page.column.0 step
  pub are : shown ≡ flat_map (number_shown page) (axis_numbers page.columns first moments step)

-- ---- what the steps keep

-- the first of a power of ten, its double and five times it at which ticks are far enough apart, if
-- there is one
abbrev pub FirstFarApart : ℕ → ℕ → ℕ → Option ℕ → Type 0
FirstFarApart moments width power (Some step) =
    AreFarApart moments width step
    × ((step ≡ power)
    ⊎ ((step ≡ 2 * power) × ¬ AreFarApart moments width power)
    ⊎ ((step ≡ 5 * power) × ¬ AreFarApart moments width power × ¬ AreFarApart moments width (2 * power)))
FirstFarApart moments width power None =
    ¬ AreFarApart moments width power × ¬ AreFarApart moments width (2 * power) × ¬ AreFarApart moments width (5 * power)
