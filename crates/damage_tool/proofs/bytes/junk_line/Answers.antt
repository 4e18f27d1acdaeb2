use Rattle.std.proofs.Common.{rules, ◌≡◌, ◌<◌, ◌-◌, ◌+◌, ℕ, suc, length, arith, ◌∙◌, ap}
use Rattle.damage_tool.proofs.JunkBytes.{byte_more, bytes_at}
use Rattle.damage_tool.proofs.bytes.junk_line.Goals as goal

pub loop-at-preserved : goal.loop-at-preserved
loop-at-preserved c =
    let k : ℕ = c.draw_to-length.result - (c.loop-at.at + 1) in
    let one : c.draw_to-length.result - c.loop-at.at ≡ suc k = omega arith in
    let below : c.loop-at.at < length c.loop-at.line = search rules in
    c.loop-at.invariant
    ∙ (ap (λ j. bytes_at j c.loop-at.at c.loop-at.line c.loop-at.generator) one
    ∙ byte_more k c.loop-at.at c.draw_below.result c.loop-at.line c.loop-at.generator c.draw_below.new.generator below c.draw_below.ensures.drawn c.draw_below.ensures.generator)
