use Rattle.run_picture.proofs.Parts.{four_parts}
use Rattle.run_picture.proofs.layout.settled.draw_settled.Goals as goal

pub returns : goal.returns
returns c =
    four_parts _ _ _ _ _ _ _ _ _ _ c.in_ok-draw_lane.ensures c.in_ok-draw_lane-2.ensures c.in_ok-draw_lane-3.ensures c.draw_lane-4.ensures
