-- What comes first in a picture: what it says to readers who do not see it, its ground, its
-- headline, and below that what the run was.
use Rattle.std.specs.Prelude.{ℕ, ◌+◌, List, [], ◌∷◌, codes}
use Rattle.topology.specs.Network.{Network}
use Rattle.run_recording.specs.judge.Judging.{counted_up_to}
use Rattle.run_recording.specs.configuration.ConfigurationView.{world_of}
use Rattle.svg_drawing.specs.declared.canvas.Anchor.TheVariants.{Start}
use Rattle.svg_drawing.specs.declared.colours.Colour.TheVariants.{Ink, Paper}
use Rattle.run_picture.specs.declared.layout.page.Page.{Page}
use Rattle.svg_drawing.specs.Drawn.{Shown, note_shown, rect_shown, heading_shown, words_shown}
use Rattle.run_picture.specs.Page.{page_width, page_height}
use Rattle.run_recording.specs.Recordings.{RecordingView}
use Rattle.run_picture.specs.Words.{title_words, headline_words, description_words}

-- what a recording says about its run
abbrev pub said_words : RecordingView → List ℕ
said_words r = description_words r.events (counted_up_to (r.unread + r.judge.refused)) (world_of r.judge.configuration) r.judge.sweeps

-- the title and what is reported, which are not seen; the white ground of the page; over it the headline,
-- and below that what is reported
abbrev pub head_shown : Page → Network → List ℕ → List Shown
head_shown page net said =
    note_shown (codes "title") (title_words net) ∷ note_shown (codes "desc") said ∷ rect_shown 0 0 (page_width page) (page_height page) Paper
    ∷ heading_shown 16 26 (headline_words net) ∷ words_shown 16 46 Start Ink said ∷ []
