use Rattle.std.proofs.Common.{refl, arith}
use Rattle.damage_tool.proofs.Scrambles.{world-goes}
use Rattle.damage_tool.proofs.laws.scramble.Goals as goal

pub returns-clause-accepted : goal.returns-clause-accepted
returns-clause-accepted c w g ok free =
    let limits = c.limits.ensures w.net ok.network in
    (world-goes w.net (record { counter = omega arith; ring = omega arith }) w g (record { same = refl; free = free })).accepted

pub returns-clause-network : goal.returns-clause-network
returns-clause-network c w g ok free =
    let limits = c.limits.ensures w.net ok.network in
    (world-goes w.net (record { counter = omega arith; ring = omega arith }) w g (record { same = refl; free = free })).open_then.same
