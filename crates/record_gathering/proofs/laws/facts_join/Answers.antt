use Rattle.record_gathering.proofs.FactsJoin.{events-join, queues-join, set-refused}
use Rattle.record_gathering.proofs.laws.facts_join.Goals as goal

pub returns : goal.returns
returns c = record { events = events-join c.runs.ensures.join; queues = queues-join; none_refused = set-refused }
