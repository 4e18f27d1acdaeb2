use Rattle.flight_records.proofs.Entries.{written-read, cut-read, entry-takes}
use Rattle.flight_records.proofs.laws.one_reading.Goals as goal

pub returns-clause-again : goal.returns-clause-again
returns-clause-again c = let law = c.one_reading.ensures in written-read law.again law.cut law.only

pub returns-clause-cut : goal.returns-clause-cut
returns-clause-cut c = let law = c.one_reading.ensures in cut-read law.again law.cut law.only

pub returns-clause-only : goal.returns-clause-only
returns-clause-only c = let law = c.one_reading.ensures in entry-takes law.again law.cut law.only
