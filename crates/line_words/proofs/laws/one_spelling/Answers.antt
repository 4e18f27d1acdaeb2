use Rattle.line_words.proofs.Spelling.{numbers-read, numbers-spelled, join-words}
use Rattle.line_words.proofs.laws.one_spelling.Goals as goal

pub returns-clause-numbers_read : goal.returns-clause-numbers_read
returns-clause-numbers_read c = numbers-read

pub returns-clause-numbers_spelled : goal.returns-clause-numbers_spelled
returns-clause-numbers_spelled c = numbers-spelled

pub returns-clause-line : goal.returns-clause-line
returns-clause-line c = join-words
