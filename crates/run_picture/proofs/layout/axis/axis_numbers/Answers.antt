use Rattle.std.proofs.Common.{◌≡◌, ◌+◌, ◌-◌, inr, arith}
use Rattle.std.specs.Int.{next_multiple_of}
use Rattle.run_picture.proofs.Axis.{IsNext, multiple_next, next-held, row_begins, row_done, row_more, row_over, sum_next}
use Rattle.run_picture.proofs.layout.axis.axis_numbers.Goals as goal

pub loop-init : goal.loop-init
loop-init c =
    let event = next_multiple_of c.args.first c.args.step in
    let is : IsNext c.checked_next_multiple_of-next.result event =
    multiple_next c.checked_next_multiple_of-next.result c.args.step event c.requires c.checked_next_multiple_of-next.ensures in (
      row_begins c.args.columns c.args.first c.args.moments c.args.step c.checked_next_multiple_of-next.result event c.new-numbers.result.items
          c.new-numbers.ensures.items is,
      next-held c.checked_next_multiple_of-next.result event is,
    )

pub returns-then-number-columns : goal.returns-then-number-columns
returns-then-number-columns c =
    row_over c.args.columns c.args.first c.args.moments c.args.step (c.args.columns - c.loop.counter) c.in-Some.event c.loop.next _ _ _ c.in-Some.is
    c.number_at-number.ensures c.if-number-columns.true c.loop.invariant.0

pub loop-preserved : goal.loop-preserved
loop-preserved c =
    let is : IsNext c.checked_add-next.result (c.in-Some.event + c.args.step) =
    sum_next c.checked_add-next.result (c.in-Some.event + c.args.step) c.checked_add-next.ensures in (
      row_more c.args.columns c.args.first c.args.moments c.args.step c.loop.counter c.in-Some.event c.loop.next c.checked_add-next.result _
          c.loop.numbers.items _ _ c.loop-test.true c.in-Some.is c.loop.invariant.1 c.number_at-number.ensures c.if-number-columns.false is
          c.in_ok-push.ensures.items c.loop.invariant.0,
      next-held c.checked_add-next.result (c.in-Some.event + c.args.step) is,
    )

pub returns : goal.returns
returns c =
    let none : c.args.columns - c.loop.counter ≡ 0 = omega (arith, c.loop-test.false) in
    row_done c.args.columns c.args.first c.args.moments c.args.step (c.args.columns - c.loop.counter) c.loop.next _ _ (inr none) c.loop.invariant.0
