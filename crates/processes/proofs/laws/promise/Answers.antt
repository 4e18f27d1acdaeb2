use Rattle.processes.proofs.Promise.{keep-promise}
use Rattle.processes.proofs.laws.promise.Goals as goal

pub returns : goal.returns
returns c =
    keep-promise c.runs-2.ensures.network c.in_range.ensures c.converge.ensures.headline c.sharp.ensures.headline c.sharp.ensures.world c.service.ensures.served
    c.runs.ensures.order c.runs.ensures.run
