-- Small examples of names and lines, and some that look like them and are none.
use Rattle.std.proofs.Common.{◌≡◌, ℕ, List, true, false, [], ◌∷◌, ◌++◌, Some, None, codes, decimal, map, replicate, string_bytes, refl, arith}
use Rattle.std.specs.Fmt.{digits}
use Rattle.node_texts.specs.declared.lines.End.TheVariants.{Status, Signal, Unknown, Unstarted}
use Rattle.node_texts.specs.declared.paths.FileNames.{FileNames}
use Rattle.node_texts.specs.declared.paths.NodePaths.{NodePaths}
use Rattle.node_texts.specs.declared.paths.SocketNames.{SocketNames}
use Rattle.node_texts.specs.declared.status_line.StatusLine.{StatusLine}
use Rattle.node_texts.specs.Names.{AreFiles, AreNamed, AreSockets, file_name, longest_socket_name}
use Rattle.node_texts.specs.LineText.{capacity_line, end_line}
use Rattle.node_texts.specs.StatusLaws.{IsSmall}
use Rattle.node_texts.specs.StatusText.{line_status, short_line_status, status_text}

-- ---- names

-- the state file of node 2 in the folder `run`
names : file_name (codes "run") (codes "state-") 2 (codes ".tkt") ≡ codes "run/state-2.tkt"
unfolding digits
names = refl

-- of three nodes the last has the longest name
names-longest : longest_socket_name (codes "run") 3 ≡ codes "run/node-2.sock"
unfolding digits
names-longest = refl

-- all of node 2's files in the folder `run`; the state file of node 1 is none of them
module _ (paths : NodePaths) where
  are-named : string_bytes paths.state ≡ codes "run/state-2.tkt" → string_bytes paths.links ≡ codes "run/node-2.sock"
      → string_bytes paths.clients ≡ codes "run/desk-2.sock" → string_bytes paths.looks ≡ codes "run/look-2.sock"
      → string_bytes paths.stop ≡ codes "run/stop-2" → string_bytes paths.lock ≡ codes "run/lock-2" → AreNamed (codes "run") 2 paths
  unfolding digits
  are-named state links clients looks stop lock = (state, links, clients, looks, stop, lock)

  named_not-other : string_bytes paths.state ≡ codes "run/state-1.tkt" → ¬ AreNamed (codes "run") 2 paths
  unfolding digits
  named_not-other state are =
      let e : ◌≡◌ {A = List ℕ} (codes "run/state-1.tkt") (codes "run/state-2.tkt") = rw state at are.0 in grind (arith, e)

-- its sockets; that of its neighbours is none for its clients
module _ (names : SocketNames) where
  are-sockets : string_bytes names.links ≡ codes "run/node-2.sock" → string_bytes names.clients ≡ codes "run/desk-2.sock"
      → string_bytes names.looks ≡ codes "run/look-2.sock" → AreSockets (codes "run") 2 names
  unfolding digits
  are-sockets links clients looks = (links, clients, looks)

  sockets_not-turned : string_bytes names.clients ≡ codes "run/node-2.sock" → ¬ AreSockets (codes "run") 2 names
  unfolding digits
  sockets_not-turned clients are =
      let e : ◌≡◌ {A = List ℕ} (codes "run/node-2.sock") (codes "run/desk-2.sock") = rw clients at are.1 in grind (arith, e)

-- its other files; a lock file in another folder is not its own
module _ (names : FileNames) where
  are-files : string_bytes names.state ≡ codes "run/state-2.tkt" → string_bytes names.stop ≡ codes "run/stop-2"
      → string_bytes names.lock ≡ codes "run/lock-2" → AreFiles (codes "run") 2 names
  unfolding digits
  are-files state stop lock = (state, stop, lock)

  files_not-elsewhere : string_bytes names.lock ≡ codes "ran/lock-2" → ¬ AreFiles (codes "run") 2 names
  unfolding digits
  files_not-elsewhere lock are =
      let e : ◌≡◌ {A = List ℕ} (codes "ran/lock-2") (codes "run/lock-2") = rw lock at are.2 in grind (arith, e)

-- ---- what processes print

ends : map (end_line 1) (Status 2 ∷ Signal 9 ∷ Unstarted ∷ Unknown ∷ [])
    ≡ codes "node 1 ended with status 2, and is started again" ∷ codes "node 1 was ended by signal 9, and is started again"
    ∷ codes "node 1 cannot be started; it is tried again" ∷ codes "node 1 ended, and is started again" ∷ []
unfolding digits
ends = refl

warns-capacity : capacity_line 2 ≡ codes "tokentree: capacity 2 is less than " ++ (decimal 64
    ++ (codes ": 36 frames may be under way on a link; give the network capacity " ++ (decimal 64 ++ codes " or more")))
unfolding digits
warns-capacity = refl

-- ---- status lines

-- node 1, which lends to ticket 9 while two wait
abbrev lending : StatusLine
lending = record { node = 1; distance = 1; parent = Some 0; token = true; lent = Some 9; waiting = 2 }

abbrev idle : StatusLine
idle = record { node = 0; distance = 0; parent = None; token = false; lent = None; waiting = 0 }

spells-lending : status_text lending ≡ codes "node 1 distance 1 parent 0 token yes lent 9 waiting 2"
unfolding digits
spells-lending = refl

spells-idle : status_text idle ≡ codes "node 0 distance 0 parent none token no lent none waiting 0"
unfolding digits
spells-idle = refl

-- a line is read byte for byte
reads-lending : line_status (codes "node 1 distance 1 parent 0 token yes lent 9 waiting 2") ≡ Some lending
reads-lending = refl

-- neither another letter, nor another space, nor a zero in front, nor more, nor less, nor a greater number
reads_not : map line_status (codes "node 1 distance 1 parent 0 token Yes lent 9 waiting 2" ∷ codes "node 1  distance 1 parent 0 token yes lent 9 waiting 2"
    ∷ codes "node 01 distance 1 parent 0 token yes lent 9 waiting 2" ∷ codes "node 1 distance 1 parent 0 token yes lent 9 waiting 2 "
    ∷ codes "node 1 distance 1 parent 0 token yes lent 9" ∷ codes "node 65536 distance 1 parent 0 token yes lent 9 waiting 2" ∷ []) ≡ replicate 6 None
reads_not = refl

-- the longest line; one of more than 96 bytes is not looked into
reads-longest : short_line_status (codes "node 65535 distance 65535 parent 65535 token yes lent 65535 waiting 65535")
    ≡ Some (record { node = 65535; distance = 65535; parent = Some 65535; token = true; lent = Some 65535; waiting = 65535 })
reads-longest = refl

small : IsSmall lending
small = record { node = omega arith; distance = omega arith; parent = omega arith; lent = omega arith; waiting = omega arith }

small_not-node : ¬ IsSmall (record lending { node = 65536 })
small_not-node s = omega (arith, s.node)
