use Rattle.experiments.specs.Moves.{AreMoves}
use Rattle.experiments.proofs.play.Playing.pass.Given as goal

-- no harm has happened so far, and none is among the moves
abbrev pub invariant-loop-event : goal.invariant-loop-event
invariant-loop-event l = record {
  events : AreMoves l.self.events.items;
  moves : AreMoves l.event-items;
}
