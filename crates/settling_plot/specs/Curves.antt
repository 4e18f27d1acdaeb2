-- The curves: in how many runs a layer holds by each number of sweeps.
use Rattle.std.specs.Prelude.{ℕ, ◌+◌, ◌==◌, if◌then◌else◌, List, [], ◌∷◌, ◌++◌, codes, decimal}
use Rattle.std.specs.List.{flat_map, range_with_len}
use Rattle.svg_drawing.specs.Drawn.{Shown, path_shown}
use Rattle.settling_plot.specs.declared.axis.Axis.{Axis}
use Rattle.settling_plot.specs.declared.curves.Scale.{Scale}
use Rattle.settling_plot.specs.declared.figure.Figure.{Figure}
use Rattle.settling_plot.specs.declared.figure.PlottedLayer.{PlottedLayer}
use Rattle.settling_plot.specs.declared.figure.PlottedLayer.TheVariants.{Links, Tree, Ring, Served}
use Rattle.settling_plot.specs.Axes.{x_of, right_of, height_of}
use Rattle.settling_plot.specs.Figures.{layer_pen, last_bound}
use Rattle.settling_plot.specs.Tallies.{runs_at, runs_by}

-- A corner of a curve at a number of sweeps: if any run has this number, the curve goes on to it,
-- and there up to the number of runs that have it or less.
abbrev pub corner : Scale → ℕ → ℕ → ℕ → List ℕ
corner scale number at by =
    if at == 0 then []
    else codes "H" ++ (decimal (x_of scale.axis number) ++ (codes "V" ++ decimal (height_of scale.runs by)))

-- the corner of the distribution of these numbers of sweeps
abbrev pub corner_in : Scale → List ℕ → ℕ → List ℕ
corner_in scale sweeps number = corner scale number (runs_at sweeps number) (runs_by sweeps number)

-- the way to the right end of the axis
abbrev pub end_step : Axis → List ℕ
end_step axis = codes "H" ++ decimal (right_of axis)

-- The steps of a curve: from no run at 0 along the corners at each number up to the last one, and
-- on to the right end. So its height over a number of sweeps, up to the last one, is how many runs
-- have that number or less.
abbrev pub curve_steps : Scale → List ℕ → List ℕ
curve_steps scale sweeps =
    codes "M72 378" ++ (flat_map (corner_in scale sweeps) (range_with_len 0 (scale.last + 1)) ++ end_step scale.axis)

-- the curve of a layer
abbrev pub curve_shown : Scale → PlottedLayer → List ℕ → Shown
curve_shown scale layer sweeps = path_shown (curve_steps scale sweeps) (layer_pen layer)

-- what the curves of a figure are drawn over: all its runs, and numbers up to the greatest of its
-- bounds
abbrev pub scale_of : Axis → Figure → Scale
scale_of axis f = record { axis = axis; runs = f.runs; last = last_bound f }

-- the curves of the four layers, the lowest first
abbrev pub curves_shown : Axis → Figure → List Shown
curves_shown axis f =
    curve_shown (scale_of axis f) Links f.links.sweeps.items ∷ curve_shown (scale_of axis f) Tree f.tree.sweeps.items
    ∷ curve_shown (scale_of axis f) Ring f.ring.sweeps.items ∷ curve_shown (scale_of axis f) Served f.served.sweeps.items ∷ []
