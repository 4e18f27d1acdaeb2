use Rattle.std.proofs.Common.{◌≡◌, ◌-◌, ◌≤◌, length}
use Rattle.arrayvec.specs.ArrayVec.{array_vec_len}
use Rattle.leb128.specs.Reading.{numbers_at}
use Rattle.flight_records.proofs.Loop.{with_front}
use Rattle.flight_records.proofs.reading.numbers_at.Given as goal

abbrev pub invariant-loop : goal.invariant-loop
invariant-loop l =
    (with_front l.numbers.items (numbers_at (l.count - l.counter) l.rest) ≡ numbers_at l.count l.bytes)
    × (array_vec_len l.numbers ≤ l.counter) × (length l.rest ≤ length l.bytes)
