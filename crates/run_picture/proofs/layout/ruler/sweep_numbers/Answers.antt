use Rattle.std.proofs.Common.{◌≡◌, ◌<◌, length, subst, sym, arith}
use Rattle.std.proofs.lemmas.Grind.{common_steps}
use Rattle.run_picture.specs.Ruler.{AreNumbers}
use Rattle.run_picture.proofs.Sweeps.{no_numbers, sweeps_step}
use Rattle.run_picture.proofs.layout.ruler.sweep_numbers.Goals as goal

pub loop-place-init : goal.loop-place-init
loop-place-init c = (
  grind (arith, common_steps),
  subst (λ ns. AreNumbers c.args.page c.args.before c.args.columns.now 0 ns) (sym c.new-numbers.ensures.items)
      (no_numbers c.args.page c.args.before c.args.columns.now),
)

pub loop-place-preserved : goal.loop-place-preserved
loop-place-preserved c =
    let within : c.loop-place.place < length c.args.columns.now = grind (arith, common_steps) in
    sweeps_step c.args.page c.args.before c.args.columns.now c.loop-place.place _ c.loop-place.ended _ _ _ within
    c.loop-place.invariant.0 c.loop-place.invariant.1 c.saturating_add-ended.ensures c.in_ok-put_number.ensures

pub returns : goal.returns
returns c =
    let all : length c.args.columns.now ≡ c.loop-place.place = grind (arith, common_steps) in
    subst (λ n. AreNumbers c.args.page c.args.before c.args.columns.now n c.loop-place.numbers.items) (sym all) c.loop-place.invariant.1
