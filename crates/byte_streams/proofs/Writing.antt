-- Texts that are written part by part.
use Rattle.std.proofs.Common.{sym, ℕ, ◌+◌, ◌-◌, ◌≤◌, List, Option, Some, None, Result, Ok, Err, IsErr, length, take, drop, arith}
use Rattle.std.proofs.lemmas.Grind.{common_steps}
use Rattle.std.proofs.lemmas.List.{take-append-drop, take_rest}
use Rattle.std.proofs.Math.Seq.{take-add}
use Rattle.byte_streams.specs.Streams.{Takes, TakesABeginning, WritesAll, Rose}

-- a beginning was taken, and then more
pub takes_more : (bytes : List ℕ) (n count : ℕ) (before between after : Option (List ℕ)) → n ≤ length bytes
    → Takes (take n bytes) before between → Takes (take count (take (length bytes - n) (drop n bytes))) between after
    → Takes (take (n + count) bytes) before after
takes_more bytes n count None between after within first second = grind (arith, common_steps)
takes_more bytes n count (Some taken) between after within first second =
    let more : Takes (take count (drop n bytes)) between after = rw (take_rest bytes n) at second in
    rw (take-add n count bytes) (grind (arith, common_steps))

-- the first bytes were taken
pub first_taken : (bytes : List ℕ) (n : ℕ) (before after : Option (List ℕ)) → Takes (take n bytes) before after → TakesABeginning bytes before after
first_taken bytes n before after taken = record { front = take n bytes; back = drop n bytes; parts = sym (take-append-drop n bytes); taken = taken }

-- the sink failed after a beginning
pub fails_within : {E : Type 0} (result : Result (Unit {0}) E) (bytes : List ℕ) (before after : Option (List ℕ)) (failures more : ℕ)
    → IsErr result → TakesABeginning bytes before after → failures ≤ more → Rose failures more → WritesAll result bytes before after failures more
fails_within (Ok value) bytes before after failures more failed b higher rose = grind (arith, common_steps)
fails_within (Err e) bytes before after failures more failed b higher rose = (b, higher, rose)
