-- What stands above the lanes: damage, and the sweeps.
use Rattle.std.specs.Prelude.{◌≡◌, ℕ, suc, ◌+◌, ◌-◌, ◌<◌, ◌≤◌, ◌&&◌, ◌⊎◌, Bool, true, nat_lt, nat_le, if◌then◌else◌, List, [], ◌∷◌, ◌++◌, length, map, take, codes, decimal, sum_by, slice_get, IfSome}
use Rattle.std.specs.List.{AllByRecursion}
use Rattle.run_recording.specs.judge.Judging.{counted_up_to}
use Rattle.run_recording.specs.declared.column.Column.{Column}
use Rattle.svg_drawing.specs.declared.canvas.Anchor.TheVariants.{Middle, End}
use Rattle.svg_drawing.specs.declared.colours.Colour.TheVariants.{Red, Ink, Blue}
use Rattle.run_picture.specs.declared.layout.page.Page.{Page}
use Rattle.run_picture.specs.declared.layout.ruler.RulerMark.{RulerMark}
use Rattle.run_picture.specs.declared.layout.ruler.RulerMark.TheVariants.{Damage, Sweep}
use Rattle.run_picture.specs.declared.layout.ruler.SweepNumber.{SweepNumber}
use Rattle.svg_drawing.specs.Drawn.{Shown, form_shown, line_shown, path_shown, words_shown, whole}
use Rattle.svg_drawing.specs.Lengths.{px}
use Rattle.run_picture.specs.Added.{over_each}
use Rattle.run_picture.specs.Page.{middle_of, ground_of}

-- the mark over a column, if damage was accepted in it: from 134 below the upper end of the page on
abbrev pub damage_over : Page → ℕ → Column → List ℕ
damage_over page place column =
    if column.damaged then codes "M" ++ (decimal (middle_of page place) ++ (codes " " ++ (decimal 134 ++ codes "l4 0l-2 5l3 0l-6 9l2 -6l-3 0z")))
    else []

-- the tick over a column, if a sweep ends in it: 10 high, from 164 below the upper end of the page on
abbrev pub tick_over : Page → ℕ → Column → List ℕ
tick_over page place column =
    if nat_lt 0 column.sweeps then codes "M" ++ (decimal (middle_of page place) ++ (codes " " ++ (decimal 164 ++ codes "v10")))
    else []

-- the mark or the tick, as asked for
abbrev pub mark_over : RulerMark → Page → ℕ → Column → List ℕ
mark_over Damage = damage_over
mark_over Sweep = tick_over

-- how many sweeps have ended up to the end of these columns, if `before` had ended before them; the
-- count stops at the greatest value of 64 bits
abbrev pub ended_in : ℕ → List Column → ℕ
ended_in before columns = counted_up_to (before + sum_by (λ column. column.sweeps) columns)

-- a sweep ends in the column at a place
abbrev pub HasTick : List Column → ℕ → Type 0
HasTick columns place = IfSome (slice_get columns place) (λ column. 0 < column.sweeps)

-- a number stands over the tick of one of the first `upto` columns, and says how many sweeps have
-- ended up to the end of this column
abbrev pub IsSweepNumber : ℕ → List Column → ℕ → SweepNumber → Type 0
IsSweepNumber before columns upto number =
    (number.place < upto) × HasTick columns number.place × (number.ended ≡ ended_in before (take (suc number.place) columns))

-- from where there is room for the next number: 30 to the right of the number over a column
abbrev pub room_after : Page → ℕ → ℕ
room_after page place = px (middle_of page place + 30)

-- neighbours are far enough apart
abbrev pub HaveRoom : Page → List SweepNumber → Type 0
HaveRoom page [] = Unit {0}
HaveRoom page (number ∷ []) = Unit {0}
HaveRoom page (number ∷ next ∷ numbers) = (room_after page number.place ≤ middle_of page next.place) × HaveRoom page (next ∷ numbers)

-- one of the numbers stands over a column, or so near to its left that it leaves no room there
abbrev pub IsTaken : Page → List SweepNumber → ℕ → Type 0
IsTaken page [] place = ⊥
IsTaken page (number ∷ numbers) place =
    (number.place ≡ place)
    ⊎ ((number.place < place) × (middle_of page place < room_after page number.place))
    ⊎ IsTaken page numbers place

-- These are the numbers over the first `upto` columns: each stands over a tick, with its count of
-- sweeps; they are far enough apart; and if a tick has no number, there is no room for one.
pub record AreNumbers (page : Page) (before : ℕ) (columns : List Column) (upto : ℕ) (numbers : List SweepNumber) : Type 0 where
  pub right : AllByRecursion (IsSweepNumber before columns upto) numbers
  pub apart : HaveRoom page numbers
  pub taken : (place : ℕ) → place < upto → HasTick columns place → IsTaken page numbers place

-- ---- what is drawn

-- what the two lines are, left of them
abbrev pub lines_named : Page → List Shown
lines_named page =
    words_shown (page.left.0 - 8) 145 End Ink (codes "damage") ∷ words_shown (page.left.0 - 8) 172 End Ink (codes "sweeps") ∷ []

-- a mark over each column in which damage was accepted
abbrev pub damage_shown : Page → List Column → Shown
damage_shown page columns = form_shown (over_each (damage_over page) 0 columns) Red

-- a tick over each column in which a sweep ends
abbrev pub ticks_shown : Page → List Column → Shown
ticks_shown page columns = path_shown (over_each (tick_over page) 0 columns) (whole Ink 1)

-- how many sweeps have ended, over the tick of its column
abbrev pub sweeps_shown : Page → SweepNumber → Shown
sweeps_shown page number = words_shown (middle_of page number.place) 162 Middle Ink (decimal number.ended)

-- the line of a bound through the middle of a column, from an upper end to the curves' line at 0
-- nodes, and its name left of it
abbrev pub guarantee_shown : Page → ℕ → ℕ → List ℕ → List ℕ → List Shown
guarantee_shown page place top dashes name =
    line_shown (middle_of page place) top (middle_of page place) (ground_of page) (record { colour = Blue; width = 2; dashes = dashes })
    ∷ words_shown (middle_of page place - 4) (px (top + 9)) End Blue name ∷ []

-- the lines of the bounds that the sweeps since the last damage reach in a column
abbrev pub guarantees_over : Page → ℕ → Column → List Shown
guarantees_over page place column =
    (if column.sharp then guarantee_shown page place 110 (codes "2 3") (codes "sharp bound") else [])
    ++ (if column.bound then guarantee_shown page place 122 (codes "7 3") (codes "bound") else [])

-- all that stands above the lanes, with these numbers over the ticks
abbrev pub ruler_shown : Page → List Column → List SweepNumber → List Shown
ruler_shown page columns numbers =
    lines_named page
    ++ (damage_shown page columns ∷ ticks_shown page columns
    ∷ (map (sweeps_shown page) numbers ++ over_each (guarantees_over page) 0 columns))

-- This stands above the lanes, if `before` sweeps have ended before the first of these columns.
pub record IsRuler (page : Page) (before : ℕ) (columns : List Column) (shown : List Shown) : Type 0 where
  pub numbers : List SweepNumber
  pub are_numbers : AreNumbers page before columns (length columns) numbers
  pub are : shown ≡ ruler_shown page columns numbers

-- ---- what the steps keep

-- the last number, if there is one, leaves room for one over a column
abbrev pub has_room : Page → List SweepNumber → ℕ → Bool
has_room page [] place = true
has_room page (number ∷ []) place = nat_le (room_after page number.place) (middle_of page place)
has_room page (number ∷ next ∷ numbers) place = has_room page (next ∷ numbers) place

-- the numbers, and after them the given one, if `sweeps`, the count of sweeps that end in its
-- column, is not 0 and there is room for it
abbrev pub with_number : Page → ℕ → SweepNumber → List SweepNumber → List SweepNumber
with_number page sweeps number numbers = if nat_lt 0 sweeps && has_room page numbers number.place then numbers ++ number ∷ [] else numbers
