use Rattle.experiments.specs.Moves.{AreMoves}
use Rattle.experiments.proofs.play.play.Given as goal

-- no harm has happened so far, and none is among the moves
abbrev pub invariant-loop-order : goal.invariant-loop-order
invariant-loop-order l = record {
  events : AreMoves l.playing.events.items;
  moves : AreMoves l.moves;
}
