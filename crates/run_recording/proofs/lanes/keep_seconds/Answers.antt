use Rattle.std.proofs.Common.{◌≡◌, ◌∙◌, ap, sym, ◌+◌, ◌*◌, ◌<◌, ◌/◌, length, take, rules, arith}
use Rattle.std.proofs.lemmas.Grind.{common_steps}
use Rattle.run_recording.proofs.Seconds.{one_kept, rest_same, all_kept}
use Rattle.run_recording.proofs.lanes.keep_seconds.Goals as goal

pub loop-k-preserved : goal.loop-k-preserved
loop-k-preserved g c =
    let items = c.args.states.now.items in
    let now = c.loop-k.states.items in
    let k = c.loop-k.k in
    let x = c.index.result.now in
    let within : 2 * k + 1 < length items = grind (arith, common_steps) in (
      one_kept items now k x x c.loop-k.invariant.2 within c.index.ensures c.loop-k.invariant.0 c.loop-k.invariant.1,
      rest_same items now k x c.loop-k.invariant.1,
      grind (arith, common_steps),
      search (rules, arith),
    )

pub returns-clause-seconds : goal.returns-clause-seconds
returns-clause-seconds g c =
    let items = c.args.states.now.items in
    let now = c.loop-k.states.items in
    let k = c.loop-k.k in
    let half : k ≡ length items / 2 = grind (arith, common_steps) in
    let cut : c.truncate.new.self.items ≡ take k now = grind (arith, common_steps) in
    cut ∙ all_kept items now k half c.loop-k.invariant.0
