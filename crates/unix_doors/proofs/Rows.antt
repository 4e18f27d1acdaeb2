-- Small examples of clients that are too many, and one that fails.
use Rattle.std.proofs.Common.{◌≡◌, refl}
use Rattle.unix_doors.specs.Seats.{closed_after}

closes-129th : closed_after 128 0 ≡ 1
closes-129th = refl

closes-each : closed_after 128 4 ≡ 5
closes-each = refl

closes_not-128th : closed_after 127 0 ≡ 0
closes_not-128th = refl

closes-last : closed_after 128 18446744073709551615 ≡ 18446744073709551615
closes-last = refl
