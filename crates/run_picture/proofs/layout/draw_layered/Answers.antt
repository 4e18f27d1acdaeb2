use Rattle.std.proofs.Common.{◌≡◌, ◌∙◌, ◌+◌, ap, [], ◌∷◌, ◌++◌, length, map, append_assoc}
use Rattle.svg_drawing.specs.declared.colours.Colour.TheVariants.{Paper}
use Rattle.svg_drawing.specs.Drawn.{rect_shown, shown_of}
use Rattle.svg_drawing.specs.Lengths.{px}
use Rattle.run_picture.specs.Page.{page_height, page_of, page_width}
use Rattle.run_picture.specs.Picture.{attributes_of, below_shown}
use Rattle.run_picture.specs.Settled.{all_lanes_shown}
use Rattle.run_picture.proofs.layout.draw_layered.Goals as goal

pub returns : goal.returns
returns c =
    let net = c.args.net.now in
    let r = c.args.recording.now in
    let page = c.new-page.result in
    let is_page : page ≡ page_of net (length r.strip.columns) =
    c.new-page.ensures ∙ ap (λ cs. page_of net (length cs)) (c.columns.ensures ∙ ap (λ s. s.columns) c.strip.ensures) in
    let states = c.in_ok-states.states.items in
    let upper = map shown_of c.in_ok-picture.picture.elements.items in
    let paper = rw (c.height.ensures, c.width.ensures) at c.in_ok-rect.ensures in
    let lanes = rw c.as_slice.ensures.value at c.in_ok-draw_settled.ensures in
    let high = c.add.ensures ∙ ap (λ h. px (h + 72)) c.height-2.ensures in
    record {
      states = states;
      are_states = c.in_ok-states.ensures;
      upper = upper;
      attributes = c.in_ok-page_attributes.ensures ∙ ap (λ w. attributes_of w c.add.result.0) c.width-2.ensures
          ∙ ap (λ h. attributes_of (page_width page) h) high
          ∙ ap (λ p. attributes_of (page_width p) (px (page_height p + 72))) is_page;
      shows = c.in_ok-picture.ensures.elements;
      elements = lanes ∙ ap (λ xs. xs ++ all_lanes_shown page states) paper
          ∙ append_assoc upper (rect_shown 0 (page_height page) (page_width page) 72 Paper ∷ []) (all_lanes_shown page states)
          ∙ ap (λ p. upper ++ below_shown p states) is_page;
    }
