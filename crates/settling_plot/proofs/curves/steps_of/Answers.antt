use Rattle.std.proofs.Common.{◌≡◌, ◌∙◌, ap, sym, ◌+◌, ◌<◌, ◌++◌, codes, length, string_bytes, arith}
use Rattle.std.proofs.lemmas.Grind.{common_steps}
use Rattle.settling_plot.specs.Curves.{corner, corner_in}
use Rattle.settling_plot.specs.Tallies.{runs_at, runs_by}
use Rattle.settling_plot.proofs.Numbers.{shown_next}
use Rattle.settling_plot.proofs.Tallies.{before_more, before_none, by_few, by_more, runs_before}
use Rattle.settling_plot.proofs.curves.steps_of.Goals as goal

pub loop-number-init : goal.loop-number-init
loop-number-init c = (sym (before_none c.args.sweeps.now), grind (arith, common_steps))

pub overflow_add-by : goal.overflow_add-by
overflow_add-by c =
    let sweeps = c.args.sweeps.now in
    let n = c.loop-number.number in
    let there : n < length c.in_ok-tally.tally.items = grind (arith, common_steps) in
    let counts = c.in_ok-tally.ensures.tally.counts n there in
    let at : c.index.result.now ≡ runs_at sweeps n = grind (arith, common_steps, counts) in
    let more = by_more sweeps n in
    let few = by_few sweeps n in
    omega (arith, at, more, few, c.loop-number.invariant.0, c.in_ok-tally.ensures.few)

pub loop-number-preserved : goal.loop-number-preserved
loop-number-preserved c =
    let sweeps = c.args.sweeps.now in
    let n = c.loop-number.number in
    let scale = c.args.scale in
    let there : n < length c.in_ok-tally.tally.items = grind (arith, common_steps) in
    let counts = c.in_ok-tally.ensures.tally.counts n there in
    let at : c.index.result.now ≡ runs_at sweeps n = grind (arith, common_steps, counts) in
    let again : c.index-in-loop-number.result.now ≡ runs_at sweeps n = grind (arith, common_steps, counts) in
    let by_is : c.loop-number.by + c.index.result.now ≡ runs_by sweeps n =
    ap (λ k. k + c.index.result.now) c.loop-number.invariant.0 ∙ ap (λ k. runs_before sweeps n + k) at ∙ sym (by_more sweeps n) in
    let old = string_bytes c.loop-number.steps in
    let added : string_bytes c.push_corner.new.steps ≡ old ++ corner_in scale sweeps n =
    c.in_ok-push_corner.ensures ∙ ap (λ k. old ++ corner scale n k (c.loop-number.by + c.index.result.now)) again
    ∙ ap (λ k. old ++ corner scale n (runs_at sweeps n) k) by_is in
    (by_is ∙ sym (before_more sweeps n), shown_next (corner_in scale sweeps) n (codes "M72 378") _ _ c.loop-number.invariant.1 added)
