-- A line of more than 16 bytes is no known one.
use Rattle.std.proofs.Common.{◌≡◌, ℕ, ◌<◌, ◌≤◌, false, List, length, arith, codes}
use Rattle.std.specs.Str.{bytes_eq}
use Rattle.std.proofs.lemmas.Slice.Eq.{bytes_eq-Decides}
use Rattle.std.proofs.lemmas.Grind.{common_steps}
use Rattle.std.proofs.lemmas.Bool.Decides.{nat_tests}
use Rattle.lock_desk.specs.declared.client_line.ClientLine.TheVariants.{Unknown}
use Rattle.lock_desk.specs.ClientText.{client_line}

differs : (line word : List ℕ) → length word ≤ 16 → 16 < length line → bytes_eq line word ≡ false
differs line word w l = grind (arith, common_steps, nat_tests, bytes_eq-Decides line word)

pub long_unknown : (line : List ℕ) → 16 < length line → client_line line ≡ Unknown
long_unknown line l =
    grind (arith, common_steps, nat_tests, differs line (codes "lock"), differs line (codes "unlock"), differs line (codes "status"))
