use Rattle.byte_lines.proofs.WholeText.{is_its_lines}
use Rattle.byte_lines.proofs.laws.text_is_its_lines.Goals as goal

pub returns : goal.returns
returns c = is_its_lines
