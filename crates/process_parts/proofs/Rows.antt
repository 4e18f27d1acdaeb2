-- Small examples of how a start goes, of rights, and of what is said if a process does not run, and some that fail.
use Rattle.std.proofs.Common.{◌≡◌, ◌≢◌, true, false, [], ◌∷◌, map, Some, None, refl, codes, arith}
use Rattle.std.specs.Fmt.{digits}
use Rattle.process_parts.specs.declared.fault.NodeFault.TheVariants.{NoNode, LongName, Folder, Running, UpRunning, Links, Looks, System, Memory}
use Rattle.process_parts.specs.declared.start.StartStage.TheVariants.{Begun, Checked, Entered, Held, Listening}
use Rattle.process_parts.specs.declared.rights.Rights.TheVariants.{Usual, GroupLocks}
use Rattle.process_parts.specs.declared.fault.Said.TheVariants.{OfNode, OfNoNode}
use Rattle.process_parts.specs.Start.{may_end}
use Rattle.process_parts.specs.Rights.{folder_mode, own_mode, clients_mode}
use Rattle.process_parts.specs.Said.{said_text}
use Rattle.process_parts.specs.Texts.{refusal_text}

-- a wrong id ends a start before the folder is made, and not after
ends-wrong_id : map (λ stage. may_end stage (NoNode 3)) (Begun ∷ Entered ∷ []) ≡ true ∷ false ∷ []
ends-wrong_id = refl

-- a place that another process holds ends it before a socket is made
ends-running : map (λ stage. may_end stage Running) (Entered ∷ Held ∷ []) ≡ true ∷ false ∷ []
ends-running = refl

ends-links : map (λ stage. may_end stage Links) (Held ∷ Checked ∷ []) ≡ true ∷ false ∷ []
ends-links = refl

ends-looks : may_end Held Looks ≡ true
ends-looks = refl

ends-memory : may_end Listening Memory ≡ true
ends-memory = refl

ends_not-system : may_end Begun System ≡ false
ends_not-system = refl

-- octal 0750, 0660 and 0600
mode-folder : folder_mode GroupLocks ≡ 488
mode-folder = refl

mode_not-written : folder_mode GroupLocks ≢ 504
mode_not-written = grind arith

mode-clients : clients_mode GroupLocks ≡ Some 432
mode-clients = refl

mode-own : own_mode GroupLocks ≡ Some 384
mode-own = refl

mode_not-usual : own_mode Usual ≡ None
mode_not-usual = refl

-- why a node does not run: which file, and what to do
refuses-node : refusal_text (codes "ring.toml") (codes "run") 7 (NoNode 3) ≡ codes "no node 7 is in ring.toml: its 3 nodes are numbered from 0"
unfolding digits
refuses-node = refl

refuses-running : refusal_text (codes "ring.toml") (codes "run") 1 Running ≡ codes "run/lock-1: node 1 runs there already; stop it, or choose another DIR"
unfolding digits
refuses-running = refl

refuses-up : refusal_text (codes "ring.toml") (codes "run") 1 UpRunning ≡ codes "run/lock-up: another up runs there already; stop it, or choose another DIR"
refuses-up = refl

refuses-links : refusal_text (codes "ring.toml") (codes "run") 1 Links ≡ codes "run/node-1.sock: cannot be made; choose another DIR"
unfolding digits
refuses-links = refl

refuses-memory : refusal_text (codes "ring.toml") (codes "run") 1 Memory ≡ codes "out of memory"
refuses-memory = refl

says-node : said_text (codes "ring.toml") (codes "run") 1 OfNode ≡ codes "run/lock-1: node 1 runs there already; stop it, or choose another DIR"
unfolding digits
says-node = refl

says_not-other : said_text (codes "ring.toml") (codes "run") 1 OfNode ≢ said_text (codes "ring.toml") (codes "run") 1 (OfNoNode 1)
unfolding digits
says_not-other = grind arith

refuses_not-other : refusal_text (codes "ring.toml") (codes "run") 1 LongName ≢ refusal_text (codes "ring.toml") (codes "run") 1 Folder
refuses_not-other = grind arith
