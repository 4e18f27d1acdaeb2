use Rattle.std.proofs.Common.{rules}
use Rattle.configuration.proofs.NodePlaces.{found-there, now-nodes}
use Rattle.configuration.proofs.WorldSteps.{ask-accepted, ask-refused}
use Rattle.configuration.proofs.configuration.Configuration.ask.Goals as goal

pub invariant_of-self-2 : goal.invariant_of-self-2
invariant_of-self-2 g c =
    now-nodes _ _ _ _ _ (found-there c.self.view_is c.self.invariant c.in_ok-place.ensures.ok c.index_mut.ensures.value) c.ask.new.self c.ask.ensures.site

pub returns-in-Err : goal.returns-in-Err
returns-in-Err g c =
    rw (← c.self.view_is) (ask-refused _ _ _ _ (found-there c.self.view_is c.self.invariant c.in_ok-place.ensures.ok c.index_mut.ensures.value) c.args.ticket c.in-Err.fault
    c.desk_fault.result c.ask.new.self (search rules) c.in-Err.ensures.refused c.desk_fault.ensures c.in-Err.ensures.unchanged)

pub returns : goal.returns
returns g c =
    rw (← c.self.view_is) (ask-accepted _ _ _ _ (found-there c.self.view_is c.self.invariant c.in_ok-place.ensures.ok c.index_mut.ensures.value) c.args.ticket
    c.ask.new.self (search rules) c.in_default.ensures.accepted c.in_default.ensures.asked)
