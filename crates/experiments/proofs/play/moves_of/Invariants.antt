use Rattle.experiments.specs.Moves.{AreMoves}
use Rattle.experiments.proofs.play.moves_of.Given as goal

-- no harm is among them so far
abbrev pub invariant-loop-node : goal.invariant-loop-node
invariant-loop-node l = AreMoves l.moves.items

abbrev pub invariant-loop-one : goal.invariant-loop-one
invariant-loop-one l = AreMoves l.moves.items
