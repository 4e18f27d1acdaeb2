use Rattle.std.proofs.Common.{◌∙◌, ap, arith, ◌-◌, ◌+◌}
use Rattle.leb128.specs.Reading.{numbers_at}
use Rattle.flight_records.proofs.Loop.{goes_on, with_front}
use Rattle.flight_records.proofs.reading.numbers_at.Goals as goal

pub loop-preserved : goal.loop-preserved
loop-preserved c =
    let i = c.loop.invariant in
    let n = c.in_ok-number.number in
    let after = c.in_ok-number.after.now in
    let total = numbers_at c.args.count c.args.bytes.now in
    let on = goes_on c.loop.numbers.items c.args.count c.loop.counter c.loop.rest.now n after total c.loop-test.true c.in_ok-number.ensures.read i.0 in (
      ap (λ ns. with_front ns (numbers_at (c.args.count - (c.loop.counter + 1)) after)) c.push.ensures.items ∙ on,
      omega (arith, i.1, c.push.ensures.len),
      omega (arith, i.2, c.in_ok-number.ensures.fewer),
    )
