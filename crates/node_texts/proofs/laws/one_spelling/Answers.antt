use Rattle.node_texts.proofs.NumbersRead.{lines-read}
use Rattle.node_texts.proofs.StatusSpelling.{lines-spelled}
use Rattle.node_texts.proofs.laws.one_spelling.Goals as goal

pub returns-clause-read : goal.returns-clause-read
returns-clause-read c = lines-read c.one_spelling.ensures.numbers_read

pub returns-clause-spelled : goal.returns-clause-spelled
returns-clause-spelled c = lines-spelled c.one_spelling.ensures.numbers_spelled c.one_spelling.ensures.line
