use Rattle.std.proofs.Common.{◌≡◌, arith}
use Rattle.std.proofs.lemmas.Grind.{common_steps}
use Rattle.svg_drawing.specs.Spelling.{drawing_text}
use Rattle.svg_drawing.proofs.Nesting.{drawing_nests}
use Rattle.svg_drawing.proofs.spelling.spelled.Goals as goal

pub returns-clause-nests : goal.returns-clause-nests
returns-clause-nests c =
    let text_is : c.extend_from_slice-2.new.self.items ≡ drawing_text c.args.drawing.now = grind (arith, common_steps) in
    rw text_is (drawing_nests c.args.drawing.now)
