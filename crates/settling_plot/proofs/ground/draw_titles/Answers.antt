use Rattle.settling_plot.proofs.Parts.{two_parts}
use Rattle.settling_plot.proofs.ground.draw_titles.Goals as goal

pub returns : goal.returns
returns c =
    let last = rw (c.right.ensures, c.add.ensures) at c.words-2.ensures in
    two_parts _ _ _ _ _ _ c.in_ok-words.ensures last
