use Rattle.std.proofs.Common.{◌≡◌, ◌<◌, ◌≤◌, ℕ, false}
use Rattle.std.specs.Prelude.{slice_index_or}
use Rattle.node_recorder.specs.Backlog.{nothing}
use Rattle.record_files.specs.Noted.{is_linked, link_changes, RecordsEach}
use Rattle.record_files.proofs.tape.Tape.note_links.Given as goal

abbrev pub invariant-loop-id : goal.invariant-loop-id
invariant-loop-id g l = record {
  files : l.self.files ≡ l.fn.self.files;
  settled : l.fn.may_wait ≡ false → l.fn.self.recorder.backlog ≡ nothing → l.self.recorder.backlog ≡ nothing;
  noted : RecordsEach l.fn.instant l.fn.may_wait l.fn.node
      (link_changes (λ id. slice_index_or l.fn.self.linked id false) (is_linked l.fn.ports) l.id) l.fn.self.recorder l.self.recorder;
  seen : (id : ℕ) → id < l.id → slice_index_or l.self.linked id false ≡ is_linked l.fn.ports id;
  unseen : (id : ℕ) → l.id ≤ id → slice_index_or l.self.linked id false ≡ slice_index_or l.fn.self.linked id false;
}
