use Rattle.command_grammar.proofs.words.WordFaultDisplay.fmt.Goals as goal

pub returns-in-NoNumber-clause-writes : goal.returns-in-NoNumber-clause-writes
returns-in-NoNumber-clause-writes g c = λ plain ok. rw c.in-NoNumber.is (c.write-in-NoNumber.ensures.writes plain ok)
