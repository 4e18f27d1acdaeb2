use Rattle.std.proofs.Common.{rules, arith, ◌<◌, length}
use Rattle.node_runner.proofs.Rounds.{take-turn}
use Rattle.node_runner.proofs.runner.Runner.take_all.Goals as goal

pub loop-place-preserved : goal.loop-place-preserved
loop-place-preserved g c =
    let within : c.loop-place.place < length c.args.self.now.ports.items = search (rules, arith) in
    take-turn c.args.self.now c.loop-place.self c.take.new.self c.take-in-loop-place.new.self c.loop-place.place c.requires.ready within c.loop-place.invariant c.take.ensures
    c.take-in-loop-place.ensures
