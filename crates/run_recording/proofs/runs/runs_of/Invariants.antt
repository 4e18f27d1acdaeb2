use Rattle.std.proofs.Common.{take, map}
use Rattle.run_recording.specs.Runs.{mark_in, AreRuns}
use Rattle.run_recording.proofs.runs.runs_of.Given as goal

-- the runs of the columns so far
abbrev pub invariant-loop-place : goal.invariant-loop-place
invariant-loop-place l = AreRuns (take l.place (map (mark_in l.v) l.columns)) l.runs.items
