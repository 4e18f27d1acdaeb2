use Rattle.experiments.specs.Moves.{AreMoves}
use Rattle.experiments.proofs.climbing.climbed.Given as goal

-- the best run so far has no harm, nor have the moves
abbrev pub invariant-loop : goal.invariant-loop
invariant-loop l = record {
  events : AreMoves l.best.events.items;
  moves : AreMoves l.moves;
}
