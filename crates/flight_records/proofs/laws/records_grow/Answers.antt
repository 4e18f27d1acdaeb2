use Rattle.flight_records.proofs.Entries.{records-grow}
use Rattle.flight_records.proofs.laws.records_grow.Goals as goal

pub returns : goal.returns
returns c = records-grow
