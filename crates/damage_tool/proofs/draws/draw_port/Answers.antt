use Rattle.std.proofs.Common.{refl, arith}
use Rattle.damage_tool.proofs.draws.draw_port.Goals as goal

pub returns-clause-drawn : goal.returns-clause-drawn
returns-clause-drawn c =
    let seq = c.draw_below-seq.ensures in
    let last = c.draw_below-last.ensures in
    let staged = c.draw_payload-staged.ensures in
    let copy = c.draw_payload-copy.ensures in
    rw (c.draw_below-value.ensures.drawn, copy.drawn, copy.generator, staged.drawn, staged.generator, last.drawn, last.generator, seq.drawn, seq.generator) refl

pub returns-clause-generator : goal.returns-clause-generator
returns-clause-generator c =
    rw (c.draw_below-value.ensures.generator, c.draw_payload-copy.ensures.generator, c.draw_payload-staged.ensures.generator, c.draw_below-last.ensures.generator, c.draw_below-seq.ensures.generator) refl

pub returns-clause-counters : goal.returns-clause-counters
returns-clause-counters c =
    let seq = c.draw_below-seq.ensures.below in
    let last = c.draw_below-last.ensures.below in
    grind (arith, seq, last)
