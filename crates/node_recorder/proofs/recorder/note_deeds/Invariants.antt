use Rattle.std.proofs.Common.{◌≡◌, take}
use Rattle.node_recorder.specs.Turns.{after_deeds}
use Rattle.node_recorder.proofs.recorder.note_deeds.Given as goal

abbrev pub invariant-loop-deed : goal.invariant-loop-deed
invariant-loop-deed g l = l.pages ≡ after_deeds l.now (take l.deed-index l.fn.deeds) l.fn.pages
