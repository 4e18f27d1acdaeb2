-- Small examples of the words that start a node, and of what is said of one that ended, and some that fail.
use Rattle.std.proofs.Common.{◌≡◌, Some, None, [], ◌∷◌, refl, codes, map, arith}
use Rattle.std.specs.Fmt.{digits}
use Rattle.std.specs.Process.{status_bits}
use Rattle.std.specs.declared.process.status.ExitStatus.{ExitStatus}
use Rattle.process_parts.specs.node_texts.declared.lines.End.TheVariants.{Unstarted, Status, Signal, Unknown}
use Rattle.node_log.specs.declared.event.Level.TheVariants.{Notice}
use Rattle.process_parts.specs.declared.rights.Rights.TheVariants.{Usual, GroupLocks}
use Rattle.up_process.specs.declared.left.LastLine.TheVariants.{Left, Gone}
use Rattle.up_process.specs.Children.{rights_options, log_options, record_options, child_options, child_words, end_of}
use Rattle.up_process.specs.Sizes.{IsOfNetwork}
use Rattle.up_process.specs.Texts.{good_end, last_end, last_line}
use Rattle.topology.proofs.Rows.{two, two-accepted}

-- what is said
says-left : last_end Unstarted ≡ codes "cannot be started"
says-left = refl

says-good : map good_end (Status 0 ∷ Status 1 ∷ Unknown ∷ []) ≡ codes "has ended" ∷ codes "ended with status 1" ∷ codes "ended" ∷ []
unfolding digits
says-good = refl

-- a status of 0 was no good end of a node that nobody asked to end
says_not-good : last_end (Status 0) ≡ codes "ended with status 0"
unfolding digits
says_not-good = refl

-- asked to end, or left alone after it failed at its start three times
says-last : map last_line (Gone 1 (Status 0) ∷ Gone 1 (Signal 9) ∷ Gone 1 (Status 1) ∷ Left 1 (Status 2) ∷ Left 1 (Signal 9) ∷ [])
    ≡ codes "node 1 has ended" ∷ codes "node 1 was ended by signal 9" ∷ codes "node 1 ended with status 1"
    ∷ codes "node 1 ended with status 2 for the third time at its start, and is left alone; mend what it says, and start up again"
    ∷ codes "node 1 was ended by signal 9 for the third time at its start, and is left alone; mend what it says, and start up again" ∷ []
unfolding digits
says-last = refl

-- a child gets all options; the time of a turn is in milliseconds
names-child : child_words (record { hold = 2000; repeat = 8000 }) 2250 GroupLocks (Some Notice) (Some (record { bytes = 65536 })) (codes "ring.toml") 1 (codes "run")
    ≡ codes "node" ∷ codes "--child" ∷ codes "--hold" ∷ codes "2000" ∷ codes "--repeat" ∷ codes "8000"
    ∷ codes "--turn" ∷ codes "2.250" ∷ codes "--group-locks" ∷ codes "--log" ∷ codes "5"
    ∷ codes "--record" ∷ codes "--record-size" ∷ codes "65536" ∷ codes "--" ∷ codes "ring.toml" ∷ codes "1" ∷ codes "run" ∷ []
unfolding digits
names-child = refl

says_not-rights : rights_options Usual ≡ []
says_not-rights = refl

says_not-log : log_options None ≡ []
says_not-log = refl

says_not-record : record_options None ≡ []
says_not-record = refl

gives-options : child_options (record { hold = 0; repeat = 5 }) 7 ≡ codes "node" ∷ codes "--child" ∷ codes "--hold" ∷ codes "0" ∷ codes "--repeat" ∷ codes "5"
    ∷ codes "--turn" ∷ codes "0.007" ∷ []
unfolding digits
gives-options = refl

-- POSIX's wait statuses: exit status 2, signal 9, signal 11 with a core (128 more), and a process that stopped
module _ (s : ExitStatus) where
  ended-status : status_bits s ≡ 512 → end_of s ≡ Status 2
  ended-status bits = rw bits refl

  ended-signal : status_bits s ≡ 9 → end_of s ≡ Signal 9
  ended-signal bits = rw bits refl

  ended-core : status_bits s ≡ 139 → end_of s ≡ Signal 11
  ended-core bits = rw bits refl

  ended_not-stopped : status_bits s ≡ 4991 → end_of s ≡ Unknown
  ended_not-stopped bits = rw bits refl

-- a network of two nodes; none has one, and no link holds so many frames
size-two : IsOfNetwork (record { nodes = 2; capacity = 1 })
size-two = (two, two-accepted, refl, refl)

extent_not-one : IsOfNetwork (record { nodes = 1; capacity = 1 }) → ⊥
extent_not-one (net, accepted, nodes, capacity) = let least = accepted.limits.two in let few : 1 ≡ net.nodes = nodes in omega (arith, least, few)

extent_not-wide : IsOfNetwork (record { nodes = 2; capacity = 5000 }) → ⊥
extent_not-wide (net, accepted, nodes, capacity) = let most = accepted.limits.most_capacity in let wide : 5000 ≡ net.capacity = capacity in omega (arith, most, wide)
