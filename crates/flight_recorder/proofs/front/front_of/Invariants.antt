use Rattle.std.proofs.Common.{◌≡◌, ◌+◌, ◌≤◌, List, length, drop}
use Rattle.flight_records.specs.declared.entry.Entry.{Entry}
use Rattle.flight_records.specs.Laws.{AreRead, instant_after}
use Rattle.flight_recorder.proofs.front.front_of.Given as goal

abbrev pub invariant-loop : goal.invariant-loop
invariant-loop l =
    (es : List Entry) × AreRead 0 l.file es l.rest × (l.reader ≡ instant_after 0 es) × (l.front.last ≡ instant_after 0 es)
    × (l.front.count + length l.rest ≡ length l.file) × (l.rest ≡ drop l.front.count l.file)
    × (l.counter + length l.rest ≤ length l.file)
