use Rattle.node_process.proofs.observer.Observer.turn_ended.Goals as goal

pub returns-clause-keeps : goal.returns-clause-keeps
returns-clause-keeps g c = c.record.ensures.keeps

pub returns-clause-logged : goal.returns-clause-logged
returns-clause-logged g c on =
    rw c.record.ensures.others.0 (rw (c.net.ensures, c.node.ensures, c.ports.ensures, c.last-ended.ensures) at c.turn_ended.ensures.logged on)

pub returns-clause-recorded : goal.returns-clause-recorded
returns-clause-recorded g c = rw c.is_to_look.ensures at c.record.ensures.recorded

pub returns-clause-others : goal.returns-clause-others
returns-clause-others g c = let others = c.record.ensures.others in (others.1, others.2, others.3)
