use Rattle.std.proofs.Common.{◌≡◌, ◌∙◌, ◌∷◌, ◌++◌, [], OnOk, ap, subst, codes}
use Rattle.svg_drawing.specs.declared.canvas.Anchor.TheVariants.{Start}
use Rattle.svg_drawing.specs.declared.colours.Colour.TheVariants.{Ink, Paper}
use Rattle.svg_drawing.specs.Drawn.{drawn, note_shown, rect_shown, heading_shown, words_shown}
use Rattle.settling_plot.specs.Heading.{said_words, title_words}
use Rattle.settling_plot.proofs.Parts.{five_parts}
use Rattle.settling_plot.proofs.heading.draw_heading.Goals as goal

pub returns : goal.returns
returns c =
    let said = said_words c.args.figure.now in
    let note : c.as_str.result.now ≡ said = c.as_str.ensures.value ∙ c.in_ok-said.ensures in
    let again : c.as_str-2.result.now ≡ said = c.as_str-2.ensures.value ∙ c.in_ok-said.ensures in
    five_parts c.words.result (drawn c.args.canvas.now) (drawn c.note.new.self) (drawn c.note-2.new.self) (drawn c.rect.new.self)
    (drawn c.heading.new.self) (drawn c.words.new.self) (note_shown (codes "title") title_words ∷ []) (note_shown (codes "desc") said ∷ [])
    (rect_shown 0 0 760 460 Paper ∷ []) (heading_shown 16 26 title_words ∷ []) (words_shown 16 46 Start Ink said ∷ [])
    c.in_ok-note.ensures (c.in_ok-note-2.ensures ∙ ap (λ t. drawn c.note.new.self ++ note_shown (codes "desc") t ∷ []) note)
    c.in_ok-rect.ensures c.in_ok-heading.ensures
    (subst (λ t. OnOk c.words.result (drawn c.words.new.self ≡ drawn c.heading.new.self ++ words_shown 16 46 Start Ink t ∷ [])) again c.words.ensures)
