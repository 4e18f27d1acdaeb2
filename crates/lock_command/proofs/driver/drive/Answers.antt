use Rattle.std.proofs.Common.{ap}
use Rattle.lock_command.proofs.Drives.{IsUnderWay, RunsAt, steps, closes, runs_on, runs_over}
use Rattle.lock_command.proofs.driver.drive.Goals as goal

pub returns-in-Finish-clause-outcome : goal.returns-in-Finish-clause-outcome
returns-in-Finish-clause-outcome g c = λ none.
    let reported = g.S.Surroundings.reported in
    let new = c.step-deed.new.self in
    let stage = ap (λ x. x.stage) c.step-deed.ensures.stage in
    let under : IsUnderWay c.args.keeps_running (reported c.args.surroundings.now) (reported c.act.new.self) new.stage =
    steps c.args.keeps_running c.loop.client.keeps_running (reported c.args.surroundings.now) (reported c.loop.surroundings) (reported c.next_event-event.new.self)
    (reported c.act.new.self) c.loop.client.stage new.stage c.next_event-event.result c.loop.invariant.2 c.loop.invariant.3
    c.next_event-event.ensures.reported c.act.ensures.reported stage in
    let so = under none in
    let over = closes c.loop.client.keeps_running c.next_event-event.result c.loop.client.stage new.stage c.step-deed.result c.in-Finish.outcome
    c.step-deed.ensures.deed c.in-Finish.is in
    (so.0, so.1, rw so.2 over)

pub returns-in-Finish-clause-over : goal.returns-in-Finish-clause-over
returns-in-Finish-clause-over g c = λ idle.
    let runs = g.S.Surroundings.runs in
    let new = c.step-deed.new.self in
    let stage = ap (λ x. x.stage) c.step-deed.ensures.stage in
    let at : RunsAt (runs c.act.new.self) new.stage =
    runs_on c.loop.client.keeps_running c.next_event-event.result c.loop.client.stage new.stage c.step-deed.result (runs c.loop.surroundings)
    (runs c.next_event-event.new.self) (runs c.act.new.self) (c.loop.invariant.4 idle) stage c.step-deed.ensures.deed
    c.next_event-event.ensures.starts_none c.next_event-event.ensures.ended c.act.ensures.starts in
    let over = closes c.loop.client.keeps_running c.next_event-event.result c.loop.client.stage new.stage c.step-deed.result c.in-Finish.outcome
    c.step-deed.ensures.deed c.in-Finish.is in
    runs_over (runs c.act.new.self) new.stage c.in-Finish.outcome over at

pub loop-preserved : goal.loop-preserved
loop-preserved g c =
    let reported = g.S.Surroundings.reported in
    let runs = g.S.Surroundings.runs in
    let new = c.step-deed.new.self in
    let stage = ap (λ x. x.stage) c.step-deed.ensures.stage in
    let keeps = ap (λ x. x.keeps_running) c.step-deed.ensures.stage in
    let under : IsUnderWay c.args.keeps_running (reported c.args.surroundings.now) (reported c.act.new.self) new.stage =
    steps c.args.keeps_running c.loop.client.keeps_running (reported c.args.surroundings.now) (reported c.loop.surroundings) (reported c.next_event-event.new.self)
    (reported c.act.new.self) c.loop.client.stage new.stage c.next_event-event.result c.loop.invariant.2 c.loop.invariant.3
    c.next_event-event.ensures.reported c.act.ensures.reported stage in (
      tt,
      tt,
      rw keeps c.loop.invariant.2,
      under,
      λ idle.
          runs_on c.loop.client.keeps_running c.next_event-event.result c.loop.client.stage new.stage c.step-deed.result (runs c.loop.surroundings)
          (runs c.next_event-event.new.self) (runs c.act.new.self) (c.loop.invariant.4 idle) stage c.step-deed.ensures.deed
          c.next_event-event.ensures.starts_none c.next_event-event.ensures.ended c.act.ensures.starts,
    )
