use Rattle.events_text.proofs.EventSpelling.{events-spelled}
use Rattle.events_text.proofs.EventReading.{events-read}
use Rattle.events_text.proofs.laws.one_spelling.Goals as goal

pub returns-clause-events_spelled : goal.returns-clause-events_spelled
returns-clause-events_spelled c = events-spelled c.one_spelling.ensures.numbers_spelled c.one_spelling.ensures.line

pub returns-clause-events_read : goal.returns-clause-events_read
returns-clause-events_read c = events-read c.one_spelling.ensures.numbers_read
