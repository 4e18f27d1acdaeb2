-- Counting sweeps greedily, event by event: a sweep ends at the first event that completes it.
use Rattle.std.specs.Prelude.{◌≡◌, ℕ, zero, suc, List, [], ◌++◌}
use Rattle.run_model.specs.World.{World}
use Rattle.run_model.specs.Run.{run}
use Rattle.run_model.specs.Sweep.{IsSweep}
use Rattle.run_model.specs.declared.event.Event.{Event}

-- no proper prefix of the stretch is a sweep
abbrev pub IsEarliest : World → List Event → Type 0
IsEarliest w first = (front back : List Event) → first ≡ front ++ back → IsSweep w front → back ≡ []

-- no prefix of the stretch is a sweep, nor is the stretch itself
abbrev pub IsUnfinished : World → List Event → Type 0
IsUnfinished w es = (front back : List Event) → es ≡ front ++ back → ¬ IsSweep w front

-- the list is r sweeps, one after the other, each ended at the first event that completes it
abbrev pub EarliestSweeps : World → ℕ → List Event → Type 0
EarliestSweeps w zero es = es ≡ []
EarliestSweeps w (suc r) es = (first rest : List Event) × (es ≡ first ++ rest) × IsSweep w first × IsEarliest w first × EarliestSweeps (run w first) r rest

-- a list counted so far: r sweeps are done, and the stretch after them is unfinished
pub record IsCounted (w : World) (done rest : List Event) (r : ℕ) : Type 0 where
  pub sweeps : EarliestSweeps w r done
  pub unfinished : IsUnfinished (run w done) rest
