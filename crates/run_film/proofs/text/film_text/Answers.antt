use Rattle.std.proofs.Common.{◌∙◌, ap, Some}
use Rattle.svg_drawing.specs.declared.element.GroupedDrawing.{GroupedDrawing}
use Rattle.svg_drawing.specs.Grouped.{scene_shown}
use Rattle.svg_drawing.specs.Spelling.{scene_text}
use Rattle.svg_drawing.specs.Xml.{IsContent}
use Rattle.run_recording.specs.SimulatedText.{events_of}
use Rattle.run_film.specs.Films.{ShowsFilm}
use Rattle.run_film.proofs.FilmTexts.{shown_is}
use Rattle.run_film.proofs.text.film_text.Goals as goal

pub returns : goal.returns
returns g c =
    λ bytes said.
    shown_is c.args.net.now c.args.wanted.window (events_of bytes) _ c.of-pace.result (c.in_ok-recording.ensures.recorded bytes said)
    c.in_ok-recording.ensures.window c.of-pace.ensures.some c.in_ok-scene.ensures.few (λ (s : GroupedDrawing). ShowsFilm (scene_shown s)) scene_text IsContent c.in_ok-scene.scene _
    c.in_ok-scene.ensures.plays (c.in_ok-recording.ensures.stills ∙ ap Some c.most.ensures.most) c.in_ok-spelled_scene.ensures.text
    c.in_ok-spelled_scene.ensures.nests
