use Rattle.run_picture.proofs.Parts.{two_parts}
use Rattle.run_picture.proofs.layout.ruler.draw_guarantees_over.Goals as goal

pub returns : goal.returns
returns c = two_parts _ _ _ _ _ _ c.in_ok-draw_if_reached.ensures c.draw_if_reached-2.ensures
