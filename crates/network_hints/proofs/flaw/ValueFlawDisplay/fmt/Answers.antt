use Rattle.network_hints.proofs.flaw.ValueFlawDisplay.fmt.Goals as goal

pub returns-in-NoKey-clause-writes : goal.returns-in-NoKey-clause-writes
returns-in-NoKey-clause-writes g c = λ plain ok. rw (c.in-NoKey.is, ← c.name.ensures) (c.write.ensures.writes plain ok)

pub returns-in-NoInteger-clause-writes : goal.returns-in-NoInteger-clause-writes
returns-in-NoInteger-clause-writes g c = λ plain ok. rw (c.in-NoInteger.is, ← c.name-in-NoInteger.ensures) (c.write-in-NoInteger.ensures.writes plain ok)

pub returns-in-NoEdge-clause-writes : goal.returns-in-NoEdge-clause-writes
returns-in-NoEdge-clause-writes g c = λ plain ok. rw c.in-NoEdge.is (c.write-in-NoEdge.ensures.writes plain ok)

pub returns-in-TooMany-clause-writes : goal.returns-in-TooMany-clause-writes
returns-in-TooMany-clause-writes g c = λ plain ok. rw c.in-TooMany.is (c.write-in-TooMany.ensures.writes plain ok)
