use Rattle.run_picture.proofs.Parts.{three_parts}
use Rattle.run_picture.proofs.layout.curves.draw_names.Goals as goal

pub returns : goal.returns
returns c =
    let lending = rw c.add.ensures at c.in_ok-draw_name-2.ensures in
    let title = rw c.right.ensures at c.words.ensures in
    three_parts _ _ _ _ _ _ _ _ c.in_ok-draw_name.ensures lending title
