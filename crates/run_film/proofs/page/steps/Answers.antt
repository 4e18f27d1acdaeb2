use Rattle.std.proofs.Common.{◌≡◌, ◌∙◌, ap, sym, ◌<◌, length, take, arith}
use Rattle.std.proofs.lemmas.Grind.{common_steps}
use Rattle.svg_drawing.specs.Grouped.{grouped_of}
use Rattle.run_film.specs.Beats.{film_of}
use Rattle.run_film.specs.Pages.{steps_to}
use Rattle.run_film.proofs.Pages.{steps_more, steps_all}
use Rattle.run_film.proofs.page.steps.Goals as goal

pub loop-place-preserved : goal.loop-place-preserved
loop-place-preserved c =
    let film = film_of c.args.shown in
    let within : c.loop-place.place < length film.later = grind (arith, common_steps) in
    steps_more film c.loop-place.place film.later _ _ _ _ within c.loop-place.invariant
    (rw (c.later-later.ensures, c.beats_at-beats.ensures) at c.in_ok-step-2.ensures) c.in_ok-group-2.ensures

pub returns : goal.returns
returns c =
    let film = film_of c.args.shown in
    let all : c.loop-place.place ≡ length film.later = grind (arith, common_steps) in
    c.loop-place.invariant ∙ ap (λ k. steps_to film (take k film.later)) all ∙ steps_all film
