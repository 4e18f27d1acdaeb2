use Rattle.experiments.specs.Moves.{AreMoves}
use Rattle.experiments.proofs.play.Playing.give_back.Given as goal

-- no harm has happened so far
abbrev pub invariant-loop-node : goal.invariant-loop-node
invariant-loop-node l = AreMoves l.self.events.items
