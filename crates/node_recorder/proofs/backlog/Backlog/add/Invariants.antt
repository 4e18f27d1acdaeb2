use Rattle.std.proofs.Common.{◌≡◌, ◌≤◌, ◌++◌, take}
use Rattle.std.specs.Prelude.{replicate, vec_capacity}
use Rattle.node_recorder.proofs.backlog.Backlog.add.Given as goal

abbrev pub invariant-loop-deed : goal.invariant-loop-deed
invariant-loop-deed g l = record {
  deeds : l.self-inside.deeds.items ≡ l.fn.self.deeds ++ take l.deed-index l.fn.deeds;
  instants : l.self-inside.instants.items ≡ l.fn.self.instants ++ replicate l.deed-index l.fn.now;
  deeds_room : 1536 ≤ vec_capacity l.self-inside.deeds;
  instants_room : 1536 ≤ vec_capacity l.self-inside.instants;
}
