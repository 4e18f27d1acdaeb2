use Rattle.std.proofs.Common.{subst, map}
use Rattle.svg_drawing.specs.Grouped.{grouped_of, scene_shown}
use Rattle.run_film.specs.Films.{ShowsFilm}
use Rattle.run_film.specs.Pages.{HoldsSteps}
use Rattle.run_film.proofs.playing.page.Goals as goal

pub returns-clause-plays : goal.returns-clause-plays
returns-clause-plays c =
    λ reel opening is first.
    let shown = c.shown_of-shown.ensures.shown reel opening is first in
    record {
      head = c.in_ok-page_head.ensures;
      plays = subst (λ film. ShowsFilm (scene_shown c.in_ok-scene.field-0) film c.args.net.now) shown c.in_ok-scene.ensures;
      steps = subst (λ film. HoldsSteps (map grouped_of c.in_ok-controls.field-0.items) film) shown c.in_ok-controls.ensures;
    }
