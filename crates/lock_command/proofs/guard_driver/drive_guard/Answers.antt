use Rattle.std.proofs.Common.{ap, refl}
use Rattle.lock_command.proofs.GuardDriven.{IsOnGuard, watches, ends}
use Rattle.lock_command.proofs.guard_driver.drive_guard.Goals as goal

pub returns-in-End : goal.returns-in-End
returns-in-End g c = λ none.
    let reported = g.S.Guarded.reported in
    let new = c.step-next.new.self in
    let stage = ap (λ x. x.stage) c.step-next.ensures.stage in
    let under : IsOnGuard c.args.keeps_running (reported c.args.guarded.now) (reported c.next_event-event.new.self) new.stage =
    watches c.args.keeps_running c.loop.guard.keeps_running (reported c.args.guarded.now) (reported c.loop.guarded)
    (reported c.next_event-event.new.self)
    (reported c.next_event-event.new.self) c.loop.guard.stage new.stage c.next_event-event.result c.loop.invariant.2
    c.loop.invariant.3 c.next_event-event.ensures.reported
    refl stage in
    let so = under none in
    let over = ends c.loop.guard.stage new.stage c.step-next.result c.step-next.ensures.deed c.in-End.is in
    (so.0, so.1, rw so.2 over)

pub loop-preserved : goal.loop-preserved
loop-preserved g c =
    let reported = g.S.Guarded.reported in
    let new = c.step-next.new.self in
    let stage = ap (λ x. x.stage) c.step-next.ensures.stage in
    let keeps = ap (λ x. x.keeps_running) c.step-next.ensures.stage in
    let under : IsOnGuard c.args.keeps_running (reported c.args.guarded.now) (reported c.act.new.self) new.stage =
    watches c.args.keeps_running c.loop.guard.keeps_running (reported c.args.guarded.now) (reported c.loop.guarded)
    (reported c.next_event-event.new.self)
    (reported c.act.new.self) c.loop.guard.stage new.stage c.next_event-event.result c.loop.invariant.2
    c.loop.invariant.3 c.next_event-event.ensures.reported
    c.act.ensures.reported stage in
    (tt, tt, rw keeps c.loop.invariant.2, under)
