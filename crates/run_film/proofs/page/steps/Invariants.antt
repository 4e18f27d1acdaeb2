use Rattle.std.proofs.Common.{◌≡◌, take}
use Rattle.svg_drawing.specs.Grouped.{grouped_of}
use Rattle.run_film.specs.Beats.{film_of}
use Rattle.run_film.specs.Pages.{steps_to}
use Rattle.run_film.proofs.page.steps.Given as goal

-- the first stills have their sentences
abbrev pub invariant-loop-place : goal.invariant-loop-place
invariant-loop-place l = grouped_of l.group ≡ steps_to (film_of l.shown) (take l.place l.shown.later.now)
