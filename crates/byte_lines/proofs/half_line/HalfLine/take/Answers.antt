use Rattle.std.proofs.Math.Seq.{take-length}
use Rattle.byte_lines.proofs.Cutting.{reads_on}
use Rattle.byte_lines.proofs.Keeping.{up_to, line_read, none_read}
use Rattle.byte_lines.proofs.half_line.HalfLine.take.Goals as goal

pub returns-in_default-clause-reads : goal.returns-in_default-clause-reads
returns-in_default-clause-reads g c =
    rw (take-length c.args.piece.now)
    (none_read g.row.N (g.R.LineReading.reading c.args.reading.now) c.args.self.now c.keep.new.self c.args.piece.now c.keep.ensures c.in_default.ensures.none)

pub returns-in_default-clause-so_far : goal.returns-in_default-clause-so_far
returns-in_default-clause-so_far g c =
    reads_on g.row.N (g.R.LineReading.reading c.args.reading.now) c.args.self.now c.keep.new.self _ _ (returns-in_default-clause-reads g c)

pub returns-clause-reads : goal.returns-clause-reads
returns-clause-reads g c =
    let (whole, one) = c.in-Some.ensures.some in
    line_read g.row.N (g.R.LineReading.reading c.args.reading.now) c.args.self.now c.end_line.new.self c.in-Some.line.now _ c.end_line.result
    c.end_line.ensures.half one (up_to c.in-Some.line.now c.in-Some.field-0-1.now c.args.piece.now whole) c.end_line.ensures.line

pub returns-clause-so_far : goal.returns-clause-so_far
returns-clause-so_far g c =
    reads_on g.row.N (g.R.LineReading.reading c.args.reading.now) c.args.self.now c.end_line.new.self _ _ (returns-clause-reads g c)
