use Rattle.std.proofs.Common.{◌≡◌, take}
use Rattle.node_recorder.specs.Backlog.{after_all}
use Rattle.node_recorder.proofs.backlog.Backlog.note_in.Given as goal

-- those before i are noted
abbrev pub invariant-loop-i : goal.invariant-loop-i
invariant-loop-i g l = l.pages ≡ after_all (record { deeds = take l.i l.fn.self.deeds; instants = take l.i l.fn.self.instants }) l.fn.pages
