use Rattle.std.proofs.Common.{List}
use Rattle.record_gathering.specs.flight_records.declared.entry.Entry.{Entry}
use Rattle.gather_command.specs.Reading.{MayFail}
use Rattle.gather_command.proofs.Stretches.{IsReadSoFar}
use Rattle.gather_command.proofs.stretch.read_through.Given as goal

-- these entries were read so far
abbrev pub invariant-loop : goal.invariant-loop
invariant-loop g l =
    (es : List Entry) × IsReadSoFar (MayFail g.S.Source.failures) l.fn.opened l.fn.greatest es l.opened l.latest
