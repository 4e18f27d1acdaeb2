use Rattle.node_loop.proofs.run.NodeRun.turn.Goals as goal

pub returns-clause-turns : goal.returns-clause-turns
returns-clause-turns g c =
    let ports = c.save.ensures.ports in
    rw (c.save.ensures.same.0, ports.0, ports.1, ports.2) c.act-ticked.ensures.noted.turns

pub returns-clause-noted : goal.returns-clause-noted
returns-clause-noted g c =
    let ports = c.save.ensures.ports in
    rw (c.save.ensures.same.0, ports.0, ports.1, ports.2) c.act-ticked.ensures.noted

pub returns-clause-connected : goal.returns-clause-connected
returns-clause-connected g c = rw (c.save.ensures.same.0, c.save.ensures.same.1) c.act-ticked.ensures.connected

pub returns-clause-lives : goal.returns-clause-lives
returns-clause-lives g c = rw c.save.ensures.same.1 c.act-ticked.ensures.lives

pub returns-clause-says : goal.returns-clause-says
returns-clause-says g c =
    let same = c.save.ensures.same in
    let ports = c.save.ensures.ports in
    rw (same.0, same.1, ports.0, ports.1, ports.2, c.save.ensures.more) c.act-ticked.ensures.says

pub returns-clause-saves : goal.returns-clause-saves
returns-clause-saves g c = rw c.act-ticked.ensures.rest.1 at c.save.ensures.when

pub returns-clause-counts : goal.returns-clause-counts
returns-clause-counts g c = rw c.act-ticked.ensures.rest.1 at c.save.ensures.turns

pub returns-clause-otherwise : goal.returns-clause-otherwise
returns-clause-otherwise g c = rw c.act-ticked.ensures.rest.2 at c.save.ensures.otherwise

pub returns-clause-net : goal.returns-clause-net
returns-clause-net g c = rw c.save.ensures.same.2 c.act-ticked.ensures.rest.0
