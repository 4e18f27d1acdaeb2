-- Small examples of what a node's process prints of its start.
use Rattle.std.proofs.Common.{◌≡◌, ◌≢◌, Some, None, codes, refl, arith}
use Rattle.std.specs.Fmt.{digits}
use Rattle.node_state_file.specs.declared.fault.FileFault.TheVariants as read
use Rattle.node_state_file.specs.declared.starting.StartFault.TheVariants.{File, Absent}
use Rattle.node_folder.specs.declared.note.Note.TheVariants.{Started, Ready}
use Rattle.node_folder.specs.NoteText.{note_line}

says-loaded : note_line None (Started None) ≡ codes "start loaded"
says-loaded = refl

says-default : note_line (Some 1) (Started (Some (File read.Magic))) ≡ codes "node 1 start default Magic"
unfolding digits
says-default = refl

says-absent : note_line None (Started (Some Absent)) ≡ codes "start default Absent"
says-absent = refl

says-ready : note_line (Some 1) Ready ≡ codes "node 1 ready"
unfolding digits
says-ready = refl

says_not-loaded : note_line None (Started (Some Absent)) ≢ codes "start loaded"
says_not-loaded = grind arith
