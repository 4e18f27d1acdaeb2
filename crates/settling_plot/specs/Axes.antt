-- The places of numbers on the page, in units of the page from its left and upper edges.
use Rattle.std.specs.Prelude.{ℕ, zero, suc, ◌≤◌, ◌+◌, ◌-◌, ◌*◌, ◌/◌, ◌^◌, ◌==◌, nat_lt, if◌then◌else◌, max, min}
use Rattle.svg_drawing.specs.Lengths.{px}
use Rattle.settling_plot.specs.declared.axis.Axis.{Axis}

-- how many of the first powers of two, 1, 2, 4 and so on, are below a number
abbrev pub powers_below : ℕ → ℕ → ℕ
powers_below most zero = 0
powers_below most (suc k) = powers_below most k + (if nat_lt (2 ^ k) most then 1 else 0)

-- The axis up to the least power of two that is not below a number: after the step from 0 to 1 it
-- doubles as often as there are powers below the number. All steps together are at most 640 wide.
abbrev pub axis_to : ℕ → Axis
axis_to most = record { doublings = powers_below most 32; step = 640 / (powers_below most 32 + 1) }

-- how much of the step from a power to its double is to the left of a number: none up to the power,
-- all from its double on, and evenly in between
abbrev pub part_of : ℕ → ℕ → ℕ → ℕ
part_of step power number = step * min (number - power) power / power

-- How far a number is from the left end: 0 is there, 1 is one step from it, and each doubling is
-- one step more.
abbrev pub place_of : ℕ → ℕ → ℕ → ℕ
place_of step zero number = if number == 0 then 0 else step
place_of step (suc k) number = place_of step k number + part_of step (2 ^ k) number

-- the place of a number of sweeps; the left end is at 72
abbrev pub x_of : Axis → ℕ → ℕ
x_of axis number = px (72 + place_of axis.step axis.doublings number)

-- the place of the number that the axis reaches after this many doublings
abbrev pub tick_of : Axis → ℕ → ℕ
tick_of axis doublings = px (px (72 + px (axis.step * doublings)) + axis.step)

abbrev pub right_of : Axis → ℕ
right_of axis = tick_of axis axis.doublings

-- the place of a number of runs, out of all: none is at 378, and all of them are 240 above that
abbrev pub height_of : ℕ → ℕ → ℕ
height_of runs count = 378 - px (240 * count) / max runs 1

-- an axis as `axis_to` makes it: at most 32 doublings, and steps of at most 640
abbrev pub IsAxis : Axis → Type 0
IsAxis axis = (axis.doublings ≤ 32) × (axis.step ≤ 640)
