-- Places on the axis, doubling by doubling.
use Rattle.std.proofs.Common.{◌≡◌, ap, ℕ, ◌+◌, ◌*◌, ◌/◌, ◌^◌, ◌≤◌, add-one, nat_lt, if◌then◌else◌, arith}
use Rattle.std.proofs.Math.Nat.{div-le_of_le-mul, mul-le-mul_left, mul_comm}
use Rattle.settling_plot.specs.Axes.{part_of, place_of, powers_below}

-- one power more
pub powers_more : (most k : ℕ) → powers_below most (k + 1) ≡ powers_below most k + (if nat_lt (2 ^ k) most then 1 else 0)
powers_more most k = ap (powers_below most) (add-one k)

-- one doubling more
pub place_more : (step k number : ℕ) → place_of step (k + 1) number ≡ place_of step k number + part_of step (2 ^ k) number
place_more step k number = ap (λ n. place_of step n number) (add-one k)

-- a part of a step times the power is not above that of the whole step
pub product_few : (step beyond power : ℕ) → step ≤ 640 → beyond ≤ power → step * beyond ≤ power * 640
product_few step beyond power few within =
    let a : step * beyond ≤ step * power = mul-le-mul_left step within in
    let b : power * step ≤ power * 640 = mul-le-mul_left power few in
    let s : step * power ≡ power * step = mul_comm step power in
    omega (arith, a, b, s)

-- so it is not above the greatest step
pub part_few : (step beyond power : ℕ) → step ≤ 640 → beyond ≤ power → step * beyond / power ≤ 640
part_few step beyond power few within = div-le_of_le-mul power (product_few step beyond power few within)
