use Rattle.std.proofs.Common.{◌≡◌, ◌<◌, length, arith}
use Rattle.std.proofs.lemmas.Bool.Decides.{nat_tests}
use Rattle.network_kinds.proofs.Drawn.{further_more, further_ends}
use Rattle.network_kinds.proofs.random.push_further.Goals as goal

pub returns-then-is_empty : goal.returns-then-is_empty
returns-then-is_empty g c =
    let long = c.loop-i.left.ok.0 in
    let test = c.if-is_empty.ensures in
    let none : length c.loop-i.left.items ≡ 0 = grind (arith, nat_tests) in
    further_ends _ _ _ _ _ c.loop-i.invariant none

pub loop-i-preserved : goal.loop-i-preserved
loop-i-preserved g c =
    let long : c.len.result ≡ length c.loop-i.left.items = omega (arith, c.len.ensures, c.loop-i.left.ok.0) in
    let some : 0 < length c.loop-i.left.items = omega (arith, long, c.draw_below-at.ensures.below) in
    further_more c.loop-i.i c.args.count _ _ _ _ _ _ _ _ _ c.loop-i-test.true some long c.draw_below-at.ensures.drawn c.draw_below-at.ensures.generator
    c.in_ok-move_at.ensures.edges c.move_at.ensures.left c.loop-i.invariant
