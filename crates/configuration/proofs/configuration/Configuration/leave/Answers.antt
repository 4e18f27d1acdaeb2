use Rattle.configuration.proofs.NodePlaces.{found-there, now-nodes}
use Rattle.configuration.proofs.WorldSteps.{leave-accepted, leave-refused}
use Rattle.configuration.proofs.configuration.Configuration.leave.Goals as goal

pub invariant_of-self-2 : goal.invariant_of-self-2
invariant_of-self-2 g c =
    now-nodes _ _ _ _ _ (found-there c.self.view_is c.self.invariant c.in_ok-place.ensures.ok c.index_mut.ensures.value) c.leave.new.self c.leave.ensures.site

pub returns-in-Err : goal.returns-in-Err
returns-in-Err g c =
    rw (← c.self.view_is) (leave-refused _ _ _ _ (found-there c.self.view_is c.self.invariant c.in_ok-place.ensures.ok c.index_mut.ensures.value) c.args.ticket c.leave.new.self
    c.in-Err.ensures.refused c.in-Err.ensures.unchanged)

pub returns : goal.returns
returns g c =
    rw (← c.self.view_is) (leave-accepted _ _ _ _ (found-there c.self.view_is c.self.invariant c.in_ok-place.ensures.ok c.index_mut.ensures.value) c.args.ticket c.leave.new.self
    c.in_default.ensures.known c.in_default.ensures.left)
