-- Recorders that are small enough to see through.
use Rattle.std.proofs.Common.{◌≡◌, ℕ, Bool, true, false, List, [], ◌∷◌, Result, Ok, refl, arith, length, replicate}
use Rattle.std.proofs.lemmas.Grind.{common_steps}
use Rattle.flight_records.specs.declared.entry.Entry.{Entry}
use Rattle.flight_records.specs.declared.entry.Noted.{Noted}
use Rattle.flight_records.specs.declared.entry.Noted.TheVariants as noted
use Rattle.flight_records.specs.declared.entry.StatePart.TheVariants.{Start, Whole}
use Rattle.flight_records.specs.declared.entry.Deed.TheVariants.{Ticks}
use Rattle.flight_records.specs.Again.{no_frames}
use Rattle.flight_recorder.specs.View.{RecorderView}
use Rattle.flight_recorder.specs.Recorder.{at_start, is_at_start, after_note, after_write, after_failure, is_due, fills}
use Rattle.flight_records.specs.leb128.declared.unread.Unread.{Unread}
use Rattle.flight_recorder.specs.Resume.{Begins, IsFront}
use Rattle.flight_recorder.proofs.Fronts.{none-left}
use Rattle.flight_recorder.specs.Laws.{BeginsWithStart, Holds}
use Rattle.flight_recorder.specs.declared.recorder.Side.TheVariants.{First, Second}

abbrev tick : Noted
tick = noted.Deed Ticks

abbrev beginning : Noted
beginning = noted.State (Start 0 1)

-- in front of the start of a state nothing is noted
no-deed_first : after_note 5 tick (at_start 65536 First) ≡ at_start 65536 First
no-deed_first = refl

-- the start is
start_first : (after_note 5 beginning (at_start 65536 First)).last ≡ 5
start_first = refl

-- no deed is noted after a failure, and nothing is due
stopped : after_note 5 tick (after_failure (at_start 65536 First)) ≡ after_failure (at_start 65536 First)
stopped = refl

not-due : is_due true (after_failure (at_start 65536 First)) ≡ false
not-due = refl

-- a page of 4096 bytes is due only after a quiet turn, one of 8192 after any
abbrev long : ℕ → RecorderView
long count = record (at_start 65536 First) { page = replicate count 0 }

due-quiet : is_due true (long 4096) ≡ true
due-quiet = refl

not-due_quiet : is_due true (long 4095) ≡ false
not-due_quiet = refl

not-due_busy : is_due false (long 8191) ≡ false
not-due_busy = refl

due-busy : is_due false (long 8192) ≡ true
due-busy = refl

-- a file of 65536 bytes of which 32766 are written has room for a page more after one of 2 bytes, and
-- none after one of 3
abbrev late : List ℕ → RecorderView
late page = record { page = page; size = 65536; written = 32766; last = 7; frames = no_frames; side = First; is_begun = true; is_stopped = false }

goes-on : fills (late (1 ∷ 2 ∷ [])) ≡ false
goes-on = refl

turns : fills (late (1 ∷ 2 ∷ 3 ∷ [])) ≡ true
turns = refl

other-file : after_write (late (1 ∷ 2 ∷ 3 ∷ [])) ≡ at_start 65536 Second
other-file = refl

same-file : (after_write (late (1 ∷ 2 ∷ []))).written ≡ 32768
same-file = refl

-- a record does not begin with a deed
not-a-deed : BeginsWithStart (record { instant = 5; noted = tick } ∷ []) → ⊥
not-a-deed h = grind (arith, common_steps)

-- bytes that are no entry are held by no recorder
nothing-of_it : Holds (late (1 ∷ [])) [] [] → ⊥
nothing-of_it h = let e = h.bytes in absurd cc

-- a file that begins with the start of node 1's state is gone on with by node 1, and by no other node
abbrev read_first : Result (Entry × List ℕ) Unread
read_first = Ok (record { instant = 5; noted = beginning }, [])

of-node : Begins 0 1 read_first
of-node = refl

of-no_other : Begins 0 2 read_first → ⊥
of-no_other is = absurd cc

of-no_other_network : Begins 3 1 read_first → ⊥
of-no_other_network is = absurd cc

-- no file has no front but nothing
front : IsFront [] 0 0 []
front = record { within = omega arith; read = refl; last_is = refl; no_more = none-left 0 [] (omega arith) }

no-front : IsFront [] 0 5 [] → ⊥
no-front is = omega (arith, is.last_is)

-- a recorder that goes on after 32766 bytes of a file of 65536, at microsecond 7, begins with the start of a state
abbrev gone_on : RecorderView
gone_on = record (at_start 65536 First) { written = 32766; last = 7 }

no-deed_there : after_note 9 tick gone_on ≡ gone_on
no-deed_there = refl

start-there : (after_note 9 beginning gone_on).is_begun ≡ true
start-there = refl
