-- A small example of what is plotted of measured runs, and one that looks like it and is none.
use Rattle.std.proofs.Common.{◌≡◌, ◌≢◌, [], ◌∷◌, refl, arith}
use Rattle.experiments.specs.declared.layered_run.Settling.{Settling}
use Rattle.settling_plot.specs.declared.figure.PlottedLayer.TheVariants.{Links, Tree, Ring, Served}
use Rattle.subcommands.specs.MeasuredPlot.{settled_sweeps}

-- a run that had its 35 sweeps and served, and one that was too short
abbrev whole_run : Settling
whole_run = record { seed = 7; events = 361; links = 1; tree = 2; ring = 3; served = 4; seen = 35 }

abbrev short_run : Settling
short_run = record { seed = 8; events = 12; links = 1; tree = 5; ring = 5; served = 5; seen = 34 }

counts_whole : settled_sweeps 35 Tree (whole_run ∷ short_run ∷ []) ≡ 2 ∷ []
counts_whole = refl

counts_each : (settled_sweeps 35 Links (whole_run ∷ []) ≡ 1 ∷ []) × (settled_sweeps 35 Ring (whole_run ∷ []) ≡ 3 ∷ []) × (settled_sweeps 35 Served (whole_run ∷ []) ≡ 4 ∷ [])
counts_each = (refl, refl, refl)

counts_not-short : settled_sweeps 35 Tree (whole_run ∷ short_run ∷ []) ≢ 2 ∷ 5 ∷ []
counts_not-short = grind arith
