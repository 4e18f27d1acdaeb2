use Rattle.processes.proofs.OverBytes.{are-processes, keep-promise}
use Rattle.processes.proofs.laws.promise_over_bytes.Goals as goal

pub returns-clause-are : goal.returns-clause-are
returns-clause-are c =
    are-processes c.limits.ensures c.in_range.ensures c.joined.ensures.nodes c.neighbours.ensures.joined c.joined.ensures.back c.bytes.ensures.history

pub returns-clause-keep : goal.returns-clause-keep
returns-clause-keep c =
    keep-promise (are-processes c.limits.ensures c.in_range.ensures c.joined.ensures.nodes c.neighbours.ensures.joined c.joined.ensures.back c.bytes.ensures.history)
    c.promise.ensures
