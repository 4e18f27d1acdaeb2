use Rattle.run_recording.proofs.Columns.{even_length}
use Rattle.run_recording.proofs.column.is_even.Goals as goal

pub returns : goal.returns
returns c = even_length c.args.columns.now
