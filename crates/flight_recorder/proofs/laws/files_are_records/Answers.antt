use Rattle.flight_recorder.proofs.Files.{are_records}
use Rattle.flight_recorder.proofs.laws.files_are_records.Goals as goal

pub returns : goal.returns
returns c = are_records c.records_grow.ensures c.one_reading.ensures.again c.one_reading.ensures.only c.short_forms_stand.ensures c.pieces_are_read.ensures
