-- Small examples of what is seen of nodes, of columns and of windows, with some that fail.
use Rattle.std.proofs.Common.{◌≡◌, ◌≢◌, ℕ, true, false, List, [], ◌∷◌, Some, refl, arith}
use Rattle.world.specs.judge.node_core.lock_desk.Desk.{no_desk}
use Rattle.world.specs.run_model.World.{World}
use Rattle.world.specs.run_model.Start.{default_world}
use Rattle.world.specs.run_model.Step.{with_desk}
use Rattle.run_recording.proofs.RowsTwo.{two_nodes, calm}
use Rattle.run_recording.specs.declared.column.Column.{Column}
use Rattle.run_recording.specs.declared.mark.Mark.{Mark}
use Rattle.run_recording.specs.declared.mark.Mark.TheVariants.{Settled, Wrong, Privileged, Lending}
use Rattle.run_recording.specs.declared.runs.Run.{Run}
use Rattle.run_recording.specs.declared.window.Window.{Window}
use Rattle.run_recording.specs.Columns.{folded, is_even, last_folded, with_last, worse_column, worst}
use Rattle.run_recording.specs.Marks.{worse, worse_marks}
use Rattle.run_recording.specs.Held.{is_held}
use Rattle.run_recording.specs.Recordings.{moment_of}
use Rattle.run_recording.specs.Runs.{AreApart, EndIn, longer, mark_in, StandFrom}
use Rattle.run_recording.specs.Seen.{is_settled, mark_at, mark_of}
use Rattle.run_recording.specs.Strips.{StripView, Shows}
use Rattle.run_recording.specs.Strips.AreShown.{Further, Last}
use Rattle.run_recording.specs.TreeEdges.{has_parent}

-- ---- what is seen of a node

abbrev start : World
start = default_world two_nodes

-- nodes that know nothing are wrong; if two nodes know their places, the root is privileged and
-- the other is settled
seen-wrong : mark_of start 1 ≡ Wrong
seen-wrong = refl

seen-privileged : mark_of calm 0 ≡ Privileged
seen-privileged = refl

seen-settled : mark_of calm 1 ≡ Settled
seen-settled = refl

seen_not-settled : is_settled start 1 ≡ false
seen_not-settled = refl

-- a node that lends shows that, though it is wrong too
seen-lending : mark_of (with_desk start 1 (record no_desk { lent = Some 7 })) 1 ≡ Lending 7
seen-lending = refl

-- an id without a node is settled
seen-no_node : mark_at start 2 ≡ Settled
seen-no_node = refl

-- ---- which mark is worse

worse-lending : worse Privileged (Lending 7) ≡ Lending 7
worse-lending = refl

worse-wrong : worse Wrong Settled ≡ Wrong
worse-wrong = refl

-- of two that lend, the earlier is shown
worse-earlier : worse (Lending 7) (Lending 8) ≡ Lending 7
worse-earlier = refl

worse_not-later : worse Wrong Privileged ≢ Wrong
worse_not-later = grind arith

worse-each : worse_marks (Settled ∷ Privileged ∷ []) (Wrong ∷ Wrong ∷ []) ≡ Wrong ∷ Privileged ∷ []
worse-each = refl

-- ---- columns

abbrev column_of : Mark → ℕ → ℕ → Column
column_of mark privileged sweeps = record {
  marks = mark ∷ [];
  privileged = privileged;
  lending = 0;
  sweeps = sweeps;
  damaged = false;
  sharp = false;
  bound = false;
}

-- two moments as one: the worse mark, the greater count, and both sweeps
column-two : worse_column (column_of Wrong 2 1) (column_of Privileged 1 1) ≡ column_of Privileged 2 2
column-two = refl

column-damaged : (worse_column (record (column_of Wrong 2 1) { damaged = true }) (column_of Wrong 2 1)).damaged ≡ true
column-damaged = refl

column_not-last : (worse_column (column_of Wrong 2 1) (column_of Wrong 1 1)).privileged ≢ 1
column_not-last = grind arith

column-worst : worst (column_of Settled 0 1) (column_of Wrong 3 0 ∷ column_of Settled 1 1 ∷ []) ≡ column_of Wrong 3 2
column-worst = refl

-- of three columns the first two become one, and the third stays
folds : folded (column_of Wrong 2 1 ∷ column_of Privileged 1 1 ∷ column_of Settled 0 0 ∷ []) ≡ column_of Privileged 2 2 ∷ column_of Settled 0 0 ∷ []
folds = refl

folds_not-even : is_even (column_of Wrong 2 1 ∷ column_of Privileged 1 1 ∷ column_of Settled 0 0 ∷ []) ≡ false
folds_not-even = refl

-- the last of these shows one moment; with an even number of columns it shows more
folds-last : last_folded false 4 1 ≡ 1
folds-last = refl

folds-last_even : last_folded true 4 1 ≡ 5
folds-last_even = refl

adds-last : with_last (column_of Wrong 2 1 ∷ column_of Settled 0 0 ∷ []) (column_of Wrong 1 1) ≡ column_of Wrong 2 1 ∷ column_of Wrong 1 1 ∷ []
adds-last = refl

-- three moments in columns of two
abbrev strip : List Column → ℕ → StripView
strip columns last = record { columns = columns; width = 2; last = last; limit = 4; moments = 3 }

shows : Shows (strip (column_of Privileged 2 2 ∷ column_of Settled 0 0 ∷ []) 1) (column_of Wrong 2 1 ∷ column_of Privileged 1 1 ∷ column_of Settled 0 0 ∷ [])
shows = (Further (column_of Wrong 2 1) (column_of Privileged 1 1 ∷ []) refl (Last (column_of Settled 0 0) [] refl (omega arith)), refl)

shows_not-fewer : ¬ Shows (strip [] 2) (column_of Wrong 2 1 ∷ [])
shows_not-fewer s = grind (arith, s.1)

-- ---- windows

abbrev window : Window
window = record { from = 2; to = 4 }

holds-first : is_held window 2 ≡ true
holds-first = refl

holds-last : is_held window 4 ≡ true
holds-last = refl

holds_not-before : is_held window 1 ≡ false
holds_not-before = refl

holds_not-after : is_held window 5 ≡ false
holds_not-after = refl

-- two nodes have recovered after 35 sweeps by the sharp bound, and after 69 by the other
moment-sharp : (moment_of calm false 34 35).sharp ≡ true
moment-sharp = refl

moment_not-again : (moment_of calm false 35 35).sharp ≡ false
moment_not-again = refl

moment-bound : (moment_of calm false 68 69).bound ≡ true
moment-bound = refl

moment_not-bound : (moment_of calm false 34 35).bound ≡ false
moment_not-bound = refl

-- ---- runs of marks

abbrev run_of : ℕ → ℕ → Mark → Run
run_of first count mark = record { first = first; count = count; mark = mark }

stand_not-apart : ¬ StandFrom 0 (run_of 0 2 Settled ∷ run_of 3 1 Wrong ∷ [])
stand_not-apart s = grind (arith, s)

apart_not-same : ¬ AreApart (run_of 0 2 Settled ∷ run_of 2 1 Settled ∷ [])
apart_not-same a = a.0 refl

ends : EndIn Wrong (run_of 0 2 Settled ∷ run_of 2 1 Wrong ∷ [])
ends = refl

ends_not-first : ¬ EndIn Settled (run_of 0 2 Settled ∷ run_of 2 1 Wrong ∷ [])
ends_not-first e = grind (arith, e)

grows-last : longer (run_of 0 2 Settled ∷ run_of 2 1 Wrong ∷ []) ≡ run_of 0 2 Settled ∷ run_of 2 2 Wrong ∷ []
grows-last = refl

mark-in : mark_in 0 (column_of Wrong 2 1) ≡ Wrong
mark-in = refl

mark_not-there : mark_in 1 (column_of Wrong 2 1) ≡ Settled
mark_not-there = refl

-- ---- the tree

parent : has_parent two_nodes 1 0 ≡ true
parent = refl

parent_not-turned : has_parent two_nodes 0 1 ≡ false
parent_not-turned = refl
