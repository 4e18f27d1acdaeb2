-- Small examples of what a guard does and of its words, and ones that fail.
use Rattle.std.proofs.Common.{◌≡◌, ◌++◌, true, false, [], ◌∷◌, refl, codes, arith}
use Rattle.lock_client.specs.declared.guard.GuardStage.TheVariants.{Idle, Searching, Waiting, Over}
use Rattle.lock_client.specs.declared.guard.GuardEvent.{GuardEvent}
use Rattle.lock_client.specs.declared.guard.GuardEvent.TheVariants.{Said, Closed, Looked, GraceIsOver}
use Rattle.lock_client.specs.declared.guard.GuardDeed.TheVariants.{Listen, Look, Ask, Kill, End}
use Rattle.lock_client.specs.declared.words.GuardWord.TheVariants.{Start, Runs, Done, Other}
use Rattle.lock_client.specs.Guards.{guard_after_all, guard_deeds}
use Rattle.lock_client.specs.GuardLaws.{quiet_looks, IsUnannounced, AsksFirst}
use Rattle.lock_client.specs.Words.{guard_word, guard_words}

somebody : GuardEvent
somebody = Looked (record { somebody = true; signalled = false })

nobody : GuardEvent
nobody = Looked (record { somebody = false; signalled = false })

signalled : GuardEvent
signalled = Looked (record { somebody = true; signalled = true })

-- the usual course: the client says that it starts a command, then which process it is, then that
-- it is done
usual : guard_deeds false Idle (Said Start ∷ Said (Runs 71) ∷ Said Done ∷ []) ≡ Listen ∷ Listen ∷ End ∷ []
usual = refl

-- the client is killed before it announces a command
unused : guard_deeds false Idle (Closed ∷ []) ≡ End ∷ []
unused = refl

-- it is killed while the command runs: the command is asked to end, then killed, and so is whoever
-- is found after that
ends_it : guard_deeds false Idle (Said Start ∷ Closed ∷ somebody ∷ somebody ∷ GraceIsOver ∷ nobody ∷ somebody ∷ [])
    ≡ Listen ∷ Look ∷ Ask ∷ Look ∷ Kill ∷ Look ∷ Kill ∷ []
unfolding somebody nobody
ends_it = refl

-- the lock is released when four looks in a row have found nobody, and not before
goes_back : guard_after_all false Idle (Said Start ∷ Closed ∷ somebody ∷ nobody ∷ nobody ∷ nobody ∷ nobody ∷ []) ≡ Over
unfolding somebody nobody
goes_back = refl

not_yet : guard_after_all false Idle (Said Start ∷ Closed ∷ nobody ∷ nobody ∷ nobody ∷ []) ≡ Searching 3
unfolding nobody
not_yet = refl

again : guard_after_all true Idle (Said Start ∷ Closed ∷ nobody ∷ nobody ∷ nobody ∷ somebody ∷ nobody ∷ []) ≡ Waiting 1
unfolding somebody nobody
again = refl

-- nobody is asked with --keep, or if the command has had the signal too
keeps : guard_deeds true Idle (Said Start ∷ Closed ∷ somebody ∷ GraceIsOver ∷ somebody ∷ []) ≡ Listen ∷ Look ∷ Look ∷ Look ∷ Look ∷ []
unfolding somebody
keeps = refl

has_had_it : guard_deeds false Idle (Said Start ∷ Closed ∷ signalled ∷ somebody ∷ []) ≡ Listen ∷ Look ∷ Look ∷ Look ∷ []
unfolding somebody signalled
has_had_it = refl

-- the words of the laws: looks that find nobody count only in a row, `done` announces nothing, and
-- a deed that kills comes after one that asks
counts-row : quiet_looks 2 (nobody ∷ Closed ∷ nobody ∷ []) ≡ 4
unfolding nobody
counts-row = refl

counts_not-over : quiet_looks 3 (somebody ∷ nobody ∷ []) ≡ 1
unfolding somebody nobody
counts_not-over = refl

unannounced : IsUnannounced (Said Other ∷ Said Done ∷ [])
unannounced = (λ same. grind arith, (λ same. grind arith, tt))

unannounced_not-started : IsUnannounced (Said Start ∷ []) → ⊥
unannounced_not-started none = none.0 refl

asks_first : AsksFirst (Listen ∷ Look ∷ Ask ∷ Kill ∷ [])
asks_first = tt

asks_first_not-killed : AsksFirst (Look ∷ Kill ∷ Ask ∷ []) → ⊥
asks_first_not-killed none = none

-- words are read byte for byte, and a process by its decimal number
reads-words : guard_words (codes "start" ++ 10 ∷ codes "runs 4194304" ++ 10 ∷ codes "done" ++ 10 ∷ codes "do") ≡ Start ∷ Runs 4194304 ∷ Done ∷ []
reads-words = refl

reads_not-great : guard_word (codes "runs 4194305") ≡ Other
reads_not-great = refl

reads_not-none : guard_word (codes "runs ") ≡ Other
reads_not-none = refl

reads_not-sign : guard_word (codes "runs -1") ≡ Other
reads_not-sign = refl

reads_not-upper : guard_word (codes "Done") ≡ Other
reads_not-upper = refl
