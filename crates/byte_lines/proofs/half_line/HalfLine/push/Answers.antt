use Rattle.std.proofs.Common.{[], ◌∷◌, ap}
use Rattle.byte_lines.proofs.Cutting.{reads_on}
use Rattle.byte_lines.proofs.Keeping.{line_read, none_read}
use Rattle.byte_lines.proofs.half_line.HalfLine.push.Goals as goal

pub returns-then-byte-eq10-clause-reads : goal.returns-then-byte-eq10-clause-reads
returns-then-byte-eq10-clause-reads g c =
    line_read g.row.N (g.R.LineReading.reading c.args.reading.now) c.args.self.now c.end_line.new.self [] (c.args.byte ∷ []) c.end_line.result
    c.end_line.ensures.half tt (ap (λ b. b ∷ []) c.if-byte-eq10.true) c.end_line.ensures.line

pub returns-then-byte-eq10-clause-so_far : goal.returns-then-byte-eq10-clause-so_far
returns-then-byte-eq10-clause-so_far g c =
    reads_on g.row.N (g.R.LineReading.reading c.args.reading.now) c.args.self.now c.end_line.new.self (c.args.byte ∷ []) _
    (returns-then-byte-eq10-clause-reads g c)

pub returns-clause-reads : goal.returns-clause-reads
returns-clause-reads g c =
    none_read g.row.N (g.R.LineReading.reading c.args.reading.now) c.args.self.now c.keep.new.self (c.args.byte ∷ []) c.keep.ensures
    (c.if-byte-eq10.false, tt)

pub returns-clause-so_far : goal.returns-clause-so_far
returns-clause-so_far g c =
    reads_on g.row.N (g.R.LineReading.reading c.args.reading.now) c.args.self.now c.keep.new.self (c.args.byte ∷ []) [] (returns-clause-reads g c)
