use Rattle.std.proofs.Common.{◌≡◌, ◌∙◌, ◌∷◌, ◌++◌, [], OnOk, ap, subst, codes}
use Rattle.svg_drawing.specs.declared.canvas.Anchor.TheVariants.{Start}
use Rattle.svg_drawing.specs.declared.colours.Colour.TheVariants.{Ink, Paper}
use Rattle.svg_drawing.specs.Drawn.{drawn, note_shown, rect_shown, heading_shown, words_shown}
use Rattle.run_picture.specs.Head.{said_words}
use Rattle.run_picture.specs.Page.{page_width, page_height}
use Rattle.run_picture.specs.Words.{title_words, headline_words}
use Rattle.run_picture.proofs.Head.{five_shown}
use Rattle.run_picture.proofs.layout.words.draw_head.Goals as goal

pub returns : goal.returns
returns c =
    let net = c.args.net.now in
    let page = c.args.page in
    let said = said_words c.args.recording.now in
    let title : c.as_str.result.now ≡ title_words net = c.as_str.ensures.value ∙ c.in_ok-title.ensures in
    let note : c.as_str-2.result.now ≡ said = c.as_str-2.ensures.value ∙ c.in_ok-said.ensures.words in
    let headline : c.as_str-3.result.now ≡ headline_words net = c.as_str-3.ensures.value ∙ c.in_ok-numbers.ensures in
    let again : c.as_str-4.result.now ≡ said = c.as_str-4.ensures.value ∙ c.in_ok-said.ensures.words in
    five_shown c.words.result (drawn c.args.canvas.now) (drawn c.note.new.self) (drawn c.note-2.new.self) (drawn c.rect.new.self)
    (drawn c.heading.new.self) (drawn c.words.new.self) (note_shown (codes "title") (title_words net)) (note_shown (codes "desc") said)
    (rect_shown 0 0 (page_width page) (page_height page) Paper) (heading_shown 16 26 (headline_words net)) (words_shown 16 46 Start Ink said)
    (c.in_ok-note.ensures ∙ ap (λ t. drawn c.args.canvas.now ++ note_shown (codes "title") t ∷ []) title)
    (c.in_ok-note-2.ensures ∙ ap (λ t. drawn c.note.new.self ++ note_shown (codes "desc") t ∷ []) note)
    (c.in_ok-rect.ensures ∙ ap (λ w. drawn c.note-2.new.self ++ rect_shown 0 0 w c.height.result.0 Paper ∷ []) c.width.ensures
    ∙ ap (λ h. drawn c.note-2.new.self ++ rect_shown 0 0 (page_width page) h Paper ∷ []) c.height.ensures)
    (c.in_ok-heading.ensures ∙ ap (λ t. drawn c.rect.new.self ++ heading_shown 16 26 t ∷ []) headline)
    (subst (λ t. OnOk c.words.result (drawn c.words.new.self ≡ drawn c.heading.new.self ++ words_shown 16 46 Start Ink t ∷ []))
    again c.words.ensures)
