-- Marks, and which of two is worse.
use Rattle.std.specs.Prelude.{ℕ, if◌then◌else◌, nat_lt, List, [], ◌∷◌}
use Rattle.run_recording.specs.declared.mark.Mark.{Mark}
use Rattle.run_recording.specs.declared.mark.Mark.TheVariants.{Settled, Wrong, Privileged, Lending}

-- how bad a mark is: lending is worse than privileged, and privileged is worse than wrong
abbrev pub rank : Mark → ℕ
rank Settled = 0
rank Wrong = 1
rank Privileged = 2
rank (Lending ticket) = 3

-- the worse of two marks; of two that are equally bad, the earlier
abbrev pub worse : Mark → Mark → Mark
worse a b = if nat_lt (rank a) (rank b) then b else a

-- at each place the worse of the two marks
abbrev pub worse_marks : List Mark → List Mark → List Mark
worse_marks (a ∷ marks) (b ∷ later) = worse a b ∷ worse_marks marks later
worse_marks _ _ = []
