use Rattle.std.proofs.Common.{◌≡◌, take}
use Rattle.node_follower.specs.node_core.View.{state_of}
use Rattle.node_recorder.specs.Turns.{after_queue}
use Rattle.node_recorder.proofs.recorder.note_queue.Given as goal

abbrev pub invariant-loop-ticket : goal.invariant-loop-ticket
invariant-loop-ticket g l = l.pages ≡ after_queue l.now (take l.ticket-index (state_of l.node).desk.waiting) l.fn.pages
