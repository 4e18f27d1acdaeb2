use Rattle.processes.proofs.Connections.{connections-play}
use Rattle.processes.proofs.Frames.{give-frames}
use Rattle.processes.proofs.laws.connections.Goals as goal

pub returns-clause-play : goal.returns-clause-play
returns-clause-play c = connections-play

pub returns-clause-frames : goal.returns-clause-frames
returns-clause-frames c = give-frames
