-- Deeds that wait until they are noted.
use Rattle.std.specs.Prelude.{ℕ, ◌+◌, Bool, nat_le, List, [], ◌++◌, fold, length, replicate, slice_index_or}
use Rattle.std.specs.List.{zip}
use Rattle.flight_recorder.specs.flight_records.declared.entry.Deed.{Deed}
use Rattle.flight_recorder.specs.flight_records.declared.entry.Noted.TheVariants as noted
use Rattle.flight_recorder.specs.View.{RecorderView}
use Rattle.flight_recorder.specs.Recorder.{after_note}
use Rattle.node_recorder.specs.BacklogView.{BacklogView}

-- no deed waits
abbrev pub nothing : BacklogView
nothing = record { deeds = []; instants = [] }

-- the deeds of one more turn wait
abbrev pub with_turn : ℕ → List Deed → BacklogView → BacklogView
with_turn now ds b = record { deeds = b.deeds ++ ds; instants = b.instants ++ replicate (length ds) now }

-- there is room for this many more, and for 1536 in all
abbrev pub has_room : ℕ → BacklogView → Bool
has_room count b = nat_le (length b.deeds + count) 1536

-- 512 or more wait: then they are noted
abbrev pub is_long : BacklogView → Bool
is_long b = nat_le 512 (length b.deeds)

-- the instant of the first of them; this one if there is none
abbrev pub first_instant : ℕ → BacklogView → ℕ
first_instant now b = slice_index_or b.instants 0 now

-- they were noted, one after the other, each with its instant
abbrev pub after_all : BacklogView → RecorderView → RecorderView
after_all b r = fold (λ x p. after_note p.0 (noted.Deed p.1) x) r (zip b.instants b.deeds)
