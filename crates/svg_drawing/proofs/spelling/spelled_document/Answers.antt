use Rattle.std.proofs.Common.{◌≡◌, arith}
use Rattle.std.proofs.lemmas.Grind.{common_steps}
use Rattle.svg_drawing.specs.Spelling.{document_content, document_text}
use Rattle.svg_drawing.proofs.Nesting.{document_nests}
use Rattle.svg_drawing.proofs.spelling.spelled_document.Goals as goal

pub returns-clause-nests : goal.returns-clause-nests
returns-clause-nests c =
    let text_is : c.extend_from_slice-3.new.self.items ≡ document_text c.args.document.now = grind (arith, common_steps) in
    (document_content c.args.document.now, text_is, document_nests c.args.document.now)
