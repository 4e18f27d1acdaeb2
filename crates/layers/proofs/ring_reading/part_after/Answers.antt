use Rattle.std.proofs.Common.{◌≡◌, arith}
use Rattle.layers.proofs.Rings.{front-goes_on}
use Rattle.layers.proofs.ring_reading.part_after.Goals as goal

pub returns-in-Front : goal.returns-in-Front
returns-in-Front c rest =
    let is : c.args.value ≡ c.args.reading.head = grind (arith, c.if-value-reading.true) in
    front-goes_on c.args.reading.part c.args.reading.modulus c.args.reading.head c.args.value rest c.in-Front.is is
