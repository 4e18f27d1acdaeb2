use Rattle.std.proofs.Common.{◌≡◌, ◌+◌, ◌*◌, ◌≤◌, ◌++◌, take, vec_len, vec_capacity}
use Rattle.leb128.specs.Spelling.{in_a_row}
use Rattle.flight_records.proofs.writing.push_numbers.Given as goal

abbrev pub invariant-loop-number : goal.invariant-loop-number
invariant-loop-number g l =
    (l.out.items ≡ l.fn.out.items ++ in_a_row (take l.number-index l.numbers))
    × (vec_len l.out ≤ vec_len l.fn.out + 10 * l.number-index) × (vec_capacity l.out ≡ vec_capacity l.fn.out)
