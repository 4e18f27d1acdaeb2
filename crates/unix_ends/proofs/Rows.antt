-- Small examples of what standard input has, and one that fails.
use Rattle.std.proofs.Common.{◌≡◌, ◌≢◌, Ok, refl, arith}
use Rattle.std.specs.declared.io.ErrorKind.TheVariants.{Interrupted, Uncategorized}
use Rattle.unix_ends.specs.declared.input.InputSight.TheVariants.{Open, Ended, Unreadable}
use Rattle.unix_ends.specs.InputSights.{input_sight, sight_of_kind}

shows-end : input_sight (Ok 0) ≡ Ended
shows-end = refl

shows-open : input_sight (Ok 3) ≡ Open
shows-open = refl

shows-interrupted : sight_of_kind Interrupted ≡ Open
shows-interrupted = refl

shows-unreadable : sight_of_kind Uncategorized ≡ Unreadable
shows-unreadable = refl

shows_not-end : sight_of_kind Uncategorized ≢ Ended
shows_not-end = grind arith
