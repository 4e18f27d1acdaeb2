use Rattle.byte_lines.proofs.Growing.{grow}
use Rattle.byte_lines.proofs.laws.lines_grow.Goals as goal

pub returns : goal.returns
returns c = grow
