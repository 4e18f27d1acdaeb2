use Rattle.std.proofs.Common.{rules}
use Rattle.lock_command.specs.Coming.{Stays}
use Rattle.lock_command.proofs.Comings.{stays_on, comes_later}
use Rattle.lock_command.proofs.session.Session.wait_for_event.Goals as goal

pub returns-in-Some-from_others-clause-comes : goal.returns-in-Some-from_others-clause-comes
returns-in-Some-from_others-clause-comes g c =
    let looked = stays_on c.args.self.now c.loop.self c.look_at_the_clock.new.self c.loop.invariant.3 c.look_at_the_clock.ensures.stays in
    comes_later c.in-Some-from_others.event c.args.self.now c.look_at_the_clock.new.self c.from_others.new.self looked c.in-Some-from_others.ensures.comes

pub returns-in-Some-from_here-clause-comes : goal.returns-in-Some-from_here-clause-comes
returns-in-Some-from_here-clause-comes g c =
    let looked = stays_on c.args.self.now c.loop.self c.look_at_the_clock.new.self c.loop.invariant.3 c.look_at_the_clock.ensures.stays in
    let silent : Stays c.look_at_the_clock.new.self c.from_others.new.self = search rules in
    let heard = stays_on c.args.self.now c.look_at_the_clock.new.self c.from_others.new.self looked silent in
    comes_later c.in-Some-from_here.event c.args.self.now c.from_others.new.self c.from_here.new.self heard c.in-Some-from_here.ensures.comes
