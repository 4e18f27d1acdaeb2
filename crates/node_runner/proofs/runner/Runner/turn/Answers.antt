use Rattle.node_runner.proofs.Rounds.{one-round}
use Rattle.node_runner.proofs.runner.Runner.turn.Goals as goal

pub returns : goal.returns
returns g c = one-round c.args.self.now c.tick.new.self c.send_all.new.self c.take_all.new.self c.requires.ready c.tick.ensures c.send_all.ensures c.take_all.ensures
