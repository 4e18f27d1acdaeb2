use Rattle.std.proofs.Common.{◌∙◌, sym}
use Rattle.std.proofs.lemmas.List.Sorted.{list_any-IsPermutation}
use Rattle.experiments.specs.Delays.{is_harm}
use Rattle.experiments.proofs.play.Playing.pass.Goals as goal

pub loop-event-init : goal.loop-event-init
loop-event-init c = record {
  events = c.requires.events;
  moves = sym (list_any-IsPermutation is_harm c.args.moves.now c.shuffle.new.self c.shuffle.ensures.permutation) ∙ c.requires.moves;
}
