use Rattle.processes.proofs.Bytes.{pipes-connect, give-beginning, keep-order, spoils-one, are-history}
use Rattle.processes.proofs.laws.bytes.Goals as goal

pub returns-clause-pipes : goal.returns-clause-pipes
returns-clause-pipes c = pipes-connect

pub returns-clause-beginning : goal.returns-clause-beginning
returns-clause-beginning c = give-beginning c.one_reading.ensures c.any_cutting.ensures c.junk_ends_at_newline.ensures c.lines_grow.ensures

pub returns-clause-order : goal.returns-clause-order
returns-clause-order c = keep-order c.one_reading.ensures c.any_cutting.ensures c.junk_ends_at_newline.ensures c.lines_grow.ensures

pub returns-clause-spoils : goal.returns-clause-spoils
returns-clause-spoils c = spoils-one c.one_reading.ensures c.any_cutting.ensures c.junk_ends_at_newline.ensures c.lines_grow.ensures

pub returns-clause-history : goal.returns-clause-history
returns-clause-history c = are-history c.one_reading.ensures c.any_cutting.ensures c.junk_ends_at_newline.ensures c.lines_grow.ensures
