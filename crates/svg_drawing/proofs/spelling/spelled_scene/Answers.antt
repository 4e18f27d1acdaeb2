use Rattle.std.proofs.Common.{◌≡◌, arith}
use Rattle.std.proofs.lemmas.Grind.{common_steps}
use Rattle.svg_drawing.specs.Spelling.{scene_text}
use Rattle.svg_drawing.proofs.Nesting.{scene_nests}
use Rattle.svg_drawing.proofs.spelling.spelled_scene.Goals as goal

pub returns-clause-nests : goal.returns-clause-nests
returns-clause-nests c =
    let text_is : c.push_scene.new.text.items ≡ scene_text c.args.scene.now = grind (arith, common_steps) in
    rw text_is (scene_nests c.args.scene.now)
