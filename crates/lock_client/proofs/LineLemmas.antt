-- A line of more than 8 bytes is no known one.
use Rattle.std.proofs.Common.{◌≡◌, ℕ, ◌<◌, ◌≤◌, false, List, length, arith, codes}
use Rattle.std.specs.Str.{bytes_eq}
use Rattle.std.proofs.lemmas.Slice.Eq.{bytes_eq-Decides}
use Rattle.std.proofs.lemmas.Grind.{common_steps}
use Rattle.std.proofs.lemmas.Bool.Decides.{nat_tests}
use Rattle.lock_client.specs.declared.answer.Answer.TheVariants.{Other}
use Rattle.lock_client.specs.Lines.{answer_line}

differs : (line word : List ℕ) → length word ≤ 8 → 8 < length line → bytes_eq line word ≡ false
differs line word w l = grind (arith, common_steps, nat_tests, bytes_eq-Decides line word)

pub long_other : (line : List ℕ) → 8 < length line → answer_line line ≡ Other
long_other line l =
    grind (
      arith,
      common_steps,
      nat_tests,
      differs line (codes "granted"),
      differs line (codes "lost"),
      differs line (codes "released"),
      differs line (codes "full"),
      differs line (codes "twice"),
      differs line (codes "stranger"),
      differs line (codes "unknown"),
    )
