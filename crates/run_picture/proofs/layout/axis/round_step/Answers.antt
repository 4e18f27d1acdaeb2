use Rattle.std.proofs.Common.{◌≡◌, ◌∙◌, ◌*◌, ◌+◌, ◌≤◌, ◌^◌, ap, sym, suc, subst, arith}
use Rattle.std.proofs.Math.Nat.{pow-succ'}
use Rattle.run_picture.proofs.Axis.{found, not_found, none_of_three, ten_below, thrice, NoneFar}
use Rattle.run_picture.proofs.layout.axis.round_step.Goals as goal

pub step_from-requires : goal.step_from-requires
step_from-requires c =
    let low : c.loop.counter ≤ 18 = omega (arith, c.loop-test.true) in
    subst (λ n. n ≤ 10 ^ 18) (sym c.loop.invariant.0) (ten_below c.loop.counter 18 low)

pub returns-in-Some : goal.returns-in-Some
returns-in-Some c =
    found c.args.moments c.args.width.0 c.loop.counter c.loop.power _ c.loop.invariant.0 c.loop.invariant.1 c.in-Some.ensures

pub overflow_mul-power : goal.overflow_mul-power
overflow_mul-power c =
    let low : c.loop.counter ≤ 18 = omega (arith, c.loop-test.true) in
    let few : c.loop.power ≤ 10 ^ 18 = subst (λ n. n ≤ 10 ^ 18) (sym c.loop.invariant.0) (ten_below c.loop.counter 18 low) in
    omega (arith, few)

pub loop-preserved : goal.loop-preserved
loop-preserved c =
    let next : suc c.loop.counter ≡ c.loop.counter + 1 = omega arith in
    let power : c.loop.power * 10 ≡ 10 ^ suc c.loop.counter = omega (arith, c.loop.invariant.0, pow-succ' 10 c.loop.counter) in (
      power ∙ ap (λ k. 10 ^ k) next,
      subst (λ k. NoneFar c.args.moments c.args.width.0 (thrice k)) next
          (none_of_three c.args.moments c.args.width.0 c.loop.counter c.loop.power c.loop.invariant.0 c.loop.invariant.1 c.in_default.ensures),
    )

pub returns : goal.returns
returns c =
    let end : c.loop.counter ≡ 19 = omega (arith, c.loop-test.false, c.loop.auto.counter-end) in
    not_found c.args.moments c.args.width.0 c.loop.power (c.loop.invariant.0 ∙ ap (λ k. 10 ^ k) end)
    (subst (λ k. NoneFar c.args.moments c.args.width.0 (thrice k)) end c.loop.invariant.1)
