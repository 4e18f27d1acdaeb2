use Rattle.std.proofs.Common.{◌≡◌, arith}
use Rattle.std.proofs.lemmas.Grind.{common_steps}
use Rattle.svg_drawing.specs.Drawn.{shown_of, path_shown, pen_of}
use Rattle.svg_drawing.proofs.Drawn.{shown_as}
use Rattle.svg_drawing.proofs.canvas.Canvas.path.Goals as goal

pub returns : goal.returns
returns c =
    let shown : shown_of c.in_ok-path.path ≡ path_shown c.args.steps.now (pen_of c.args.stroke) = grind (arith, common_steps) in
    shown_as _ _ _ _ _ shown c.add.ensures
