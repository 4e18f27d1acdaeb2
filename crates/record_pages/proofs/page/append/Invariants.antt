use Rattle.std.proofs.Common.{◌≡◌, ◌+◌, ◌++◌, take, vec_len, vec_capacity}
use Rattle.record_pages.proofs.page.append.Given as goal

abbrev pub invariant-loop-byte : goal.invariant-loop-byte
invariant-loop-byte g l =
    (l.bytes.items ≡ l.fn.bytes.items ++ take l.byte-index l.more)
    × (vec_len l.bytes ≡ vec_len l.fn.bytes + l.byte-index) × (vec_capacity l.bytes ≡ vec_capacity l.fn.bytes)
