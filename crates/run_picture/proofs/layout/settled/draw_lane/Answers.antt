use Rattle.run_picture.proofs.Parts.{three_parts}
use Rattle.run_picture.proofs.layout.settled.draw_lane.Goals as goal

pub returns : goal.returns
returns c =
    let rect = rw (c.sub.ensures, c.base_of-base.ensures, c.sub-2.ensures, c.right.ensures) at c.in_ok-rect.ensures in
    let form = rw (c.as_str.ensures.value, c.in_ok-steps.ensures, c.colour.ensures) at c.in_ok-form.ensures in
    let name = rw (c.sub-3.ensures, c.base_of-base.ensures, c.words.ensures) at c.words-2.ensures in
    three_parts _ _ _ _ _ _ _ _ rect form name
