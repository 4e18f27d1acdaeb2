-- The marks of a node from left to right, as runs of one mark.
use Rattle.std.specs.Prelude.{◌≡◌, ◌≢◌, ℕ, ◌+◌, ◌-◌, ◌^◌, ◌<◌, min, List, [], ◌∷◌, ◌++◌, length, replicate, slice_index_or}
use Rattle.std.specs.List.{flat_map}
use Rattle.run_recording.specs.declared.column.Column.{Column}
use Rattle.run_recording.specs.declared.mark.Mark.{Mark}
use Rattle.run_recording.specs.declared.mark.Mark.TheVariants.{Settled}
use Rattle.run_recording.specs.declared.runs.Run.{Run}

-- the mark of a node in a column
abbrev pub mark_in : ℕ → Column → Mark
mark_in v column = slice_index_or column.marks v Settled

-- the marks of a run: its mark, as often as it has columns
abbrev pub marks_along : Run → List Mark
marks_along run = replicate run.count run.mark

-- the first run begins at a place, and each other run where the one before it ends; none is empty
abbrev pub StandFrom : ℕ → List Run → Type 0
StandFrom place [] = Unit {0}
StandFrom place (run ∷ runs) = (run.first ≡ place) × (0 < run.count) × StandFrom (place + run.count) runs

-- no two adjacent runs have the same mark
abbrev pub AreApart : List Run → Type 0
AreApart [] = Unit {0}
AreApart (run ∷ []) = Unit {0}
AreApart (run ∷ next ∷ runs) = (run.mark ≢ next.mark) × AreApart (next ∷ runs)

-- These are the runs of these marks: they follow one another from the first column on, adjacent
-- ones differ, and their marks, one run after the other, are these.
pub record AreRuns (marks : List Mark) (runs : List Run) : Type 0 where
  pub are : flat_map marks_along runs ≡ marks
  pub stand : StandFrom 0 runs
  pub apart : AreApart runs

-- ---- what the steps keep

-- there is a last run, and it has this mark
abbrev pub EndIn : Mark → List Run → Type 0
EndIn mark [] = ⊥
EndIn mark (run ∷ []) = run.mark ≡ mark
EndIn mark (run ∷ next ∷ runs) = EndIn mark (next ∷ runs)

-- the last run, if there is one, is a column longer; its length stops at the greatest value of 64
-- bits
abbrev pub longer : List Run → List Run
longer [] = []
longer (run ∷ []) = record run { count = min (run.count + 1) (2 ^ 64 - 1) } ∷ []
longer (run ∷ next ∷ runs) = run ∷ longer (next ∷ runs)

-- if the old runs are those of any `place` marks, the new ones are those of the same marks followed
-- by `mark`
abbrev pub AreRunsNext : List Run → ℕ → Mark → List Run → Type 0
AreRunsNext old place mark new = (marks : List Mark) → length marks ≡ place → AreRuns marks old → AreRuns (marks ++ mark ∷ []) new
