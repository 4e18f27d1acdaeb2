use Rattle.std.proofs.Common.{◌+◌, ◌≤◌, ◌∙◌, length, arith}
use Rattle.std.proofs.lemmas.Grind.{common_steps}
use Rattle.socket_links.proofs.Flowing.{goes_more, fell_on}
use Rattle.socket_links.proofs.writing.write_line.Goals as goal

pub loop-count-preserved : goal.loop-count-preserved
loop-count-preserved g c =
    let wrote = c.in-Wrote.ensures.writes in
    let so_far = c.loop-count.invariant in
    let within : c.loop-count.count + c.in-Wrote.more ≤ length c.args.bytes.now = grind (arith, common_steps) in
    (within, goes_more c.args.bytes.now c.loop-count.count c.in-Wrote.more _ _ _ so_far.1 wrote.2, c.in-Wrote.ensures.gave ∙ so_far.2, fell_on _ _ _ so_far.3 wrote.3)
