use Rattle.std.proofs.Common.{◌∙◌, ap, Some}
use Rattle.svg_drawing.specs.Spelling.{document_text}
use Rattle.svg_drawing.specs.Xml.{IsDocument}
use Rattle.run_recording.specs.SimulatedText.{events_of}
use Rattle.run_film.specs.Pages.{ShowsPage}
use Rattle.run_film.proofs.FilmTexts.{shown_is}
use Rattle.run_film.proofs.text.page_text.Goals as goal

pub returns : goal.returns
returns g c =
    λ bytes said.
    shown_is c.args.net.now c.args.wanted.window (events_of bytes) _ c.of-pace.result (c.in_ok-recording.ensures.recorded bytes said)
    c.in_ok-recording.ensures.window c.of-pace.ensures.some c.in_ok-page.ensures.few ShowsPage document_text IsDocument c.in_ok-page.page _
    c.in_ok-page.ensures.plays (c.in_ok-recording.ensures.stills ∙ ap Some c.most.ensures.most) c.in_ok-spelled_document.ensures.text
    c.in_ok-spelled_document.ensures.nests
