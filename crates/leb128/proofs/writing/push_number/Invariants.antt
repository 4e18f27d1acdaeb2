use Rattle.std.proofs.Common.{◌≡◌, ℕ, ◌+◌, ◌<◌, ◌≤◌, ◌++◌, vec_len, vec_capacity}
use Rattle.leb128.specs.Spelling.{leb128, leb128_in}
use Rattle.leb128.proofs.Numbers.{bound}
use Rattle.leb128.proofs.writing.push_number.Given as goal

-- what is left of the number, in the bytes that are left, completes it
abbrev pub invariant-loop-rest : goal.invariant-loop-rest
invariant-loop-rest g l =
    (more : ℕ) × (l.rest < bound more) × (l.out.items ++ leb128_in more l.rest ≡ l.fn.out.items ++ leb128 l.number)
    × (vec_len l.out + more + 1 ≤ vec_len l.fn.out + 10) × (vec_capacity l.out ≡ vec_capacity l.fn.out)

abbrev pub decreases-loop-rest : goal.decreases-loop-rest
decreases-loop-rest g l = l.rest
