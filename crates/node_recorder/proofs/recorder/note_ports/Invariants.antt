use Rattle.std.proofs.Common.{◌≡◌, take}
use Rattle.node_follower.specs.node_core.View.{site_in, state_of}
use Rattle.node_recorder.specs.Turns.{after_ports}
use Rattle.node_recorder.proofs.recorder.note_ports.Given as goal

abbrev pub invariant-loop-w : goal.invariant-loop-w
invariant-loop-w g l = l.pages ≡ after_ports l.now (state_of l.node) (take l.w-index (site_in l.node).neighbours) l.fn.pages
