-- In which rounds a slow one has its part.
use Rattle.std.proofs.Common.{◌≡◌, ◌∙◌, ap, sym, ℕ, ◌+◌, ◌*◌, ◌/◌, ◌%◌, arith}
use Rattle.std.proofs.lemmas.Bool.Decides.{nat_tests}
use Rattle.std.proofs.Math.Nat.{div-add-mod}
use Rattle.std.specs.Prelude.{nat_lt}
use Rattle.schedules.specs.Slow.{has_part, parts}

-- whole hundreds of rounds have whole shares
parts-hundreds : (share q r : ℕ) → parts share (100 * q + r) ≡ q * share + parts share r
parts-hundreds share q r =
    let product : (100 * q + r) * share ≡ 100 * (q * share) + r * share = omega arith in
    ap (λ n. n / 100) product ∙ omega arith

later : (a b c : ℕ) → nat_lt (a + b) (a + c) ≡ nat_lt b c
later a b c = grind (arith, nat_tests)

-- so the place of a round in its hundred says whether the slow one has its part in it
pub place-says : (share i : ℕ) → has_part share i ≡ nat_lt ((i % 100) * share / 100) ((i % 100 + 1) * share / 100)
place-says share i =
    let q = i / 100 in
    let r = i % 100 in
    let now : parts share i ≡ q * share + parts share r = ap (parts share) (sym (div-add-mod i 100)) ∙ parts-hundreds share q r in
    let next_place : i + 1 ≡ 100 * q + (r + 1) = omega (arith, div-add-mod i 100) in
    let next : parts share (i + 1) ≡ q * share + parts share (r + 1) = ap (parts share) next_place ∙ parts-hundreds share q (r + 1) in
    ap (λ n. nat_lt n (parts share (i + 1))) now ∙ ap (λ n. nat_lt (q * share + parts share r) n) next
    ∙ later (q * share) (parts share r) (parts share (r + 1))
