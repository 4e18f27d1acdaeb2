use Rattle.node_runner.proofs.Rounds.{round-turn}
use Rattle.node_runner.proofs.runner.Runner.run.Goals as goal

pub loop-turn-preserved : goal.loop-turn-preserved
loop-turn-preserved g c = round-turn c.args.self.now c.loop-turn.self c.turn.new.self c.loop-turn.turn c.requires.ready c.loop-turn.invariant c.turn.ensures
