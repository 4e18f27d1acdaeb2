use Rattle.std.proofs.Common.{◌≡◌, arith}
use Rattle.std.proofs.lemmas.Grind.{common_steps}
use Rattle.svg_drawing.specs.Drawn.{shown_of, words_shown}
use Rattle.svg_drawing.proofs.Drawn.{shown_as}
use Rattle.svg_drawing.proofs.canvas.Canvas.words.Goals as goal

pub returns : goal.returns
returns c =
    let shown : shown_of c.in_ok-words.words ≡ words_shown c.args.at.x.0 c.args.at.y.0 c.args.anchor c.args.colour c.args.text.now = grind (arith, common_steps) in
    shown_as _ _ _ _ _ shown c.add.ensures
