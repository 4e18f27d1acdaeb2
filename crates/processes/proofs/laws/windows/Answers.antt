use Rattle.processes.proofs.Windows.{windows-are-sweeps, serves-in-time, lends-in-time}
use Rattle.processes.proofs.laws.windows.Goals as goal

pub returns-clause-sweeps : goal.returns-clause-sweeps
returns-clause-sweeps c = windows-are-sweeps c.neighbours.ensures.joined c.joined.ensures.back c.joined.ensures.nodes

pub returns-clause-serves : goal.returns-clause-serves
returns-clause-serves c =
    serves-in-time c.neighbours.ensures.joined c.joined.ensures.back c.joined.ensures.nodes c.runs.ensures.network c.in_range.ensures c.sweep_numbers.ensures.join
    c.converge.ensures.headline c.sharp.ensures.headline c.sharp.ensures.world c.service.ensures.served

pub returns-clause-lends : goal.returns-clause-lends
returns-clause-lends c =
    lends-in-time c.neighbours.ensures.joined c.joined.ensures.back c.joined.ensures.nodes c.runs.ensures.network c.in_range.ensures c.sweep_numbers.ensures.join
    c.converge.ensures.headline c.sharp.ensures.headline c.sharp.ensures.world c.service.ensures.served
