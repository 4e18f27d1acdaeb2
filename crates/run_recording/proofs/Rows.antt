-- Small examples by computation, with some that fail.
use Rattle.std.proofs.Common.{◌≡◌, ℕ, List, [], ◌∷◌, length, refl, sym, true, false, arith}
use Rattle.std.proofs.lemmas.Grind.{common_steps}
use Rattle.topology.specs.Network.{Network}
use Rattle.world.specs.run_model.World.{World}
use Rattle.world.specs.run_model.declared.event.Event.{Event}
use Rattle.run_recording.specs.Recordings.{moment_of, AreMoments, IsFirstHeld, IsBefore}
use Rattle.run_recording.specs.Recordings.AreMoments.{Start}
use Rattle.run_recording.specs.Recordings.IsFirstHeld.{AtStart, Following}
use Rattle.run_recording.specs.TreeEdges.{is_on_tree}
use Rattle.run_recording.specs.Visits.{first_of_each, first_visits}
use Rattle.run_recording.specs.Runs.{AreRuns}
use Rattle.run_recording.specs.declared.recording.Before.{Before}
use Rattle.run_recording.specs.declared.window.Window.{Window}
use Rattle.run_recording.specs.declared.mark.Mark.{Mark}
use Rattle.run_recording.specs.declared.mark.Mark.TheVariants.{Settled, Wrong}
use Rattle.run_recording.specs.declared.runs.Run.{Run}

-- ---- the order of the lanes

-- each at its first place
first_ones : first_of_each (0 ∷ 2 ∷ 0 ∷ 1 ∷ 3 ∷ 1 ∷ []) ≡ 0 ∷ 2 ∷ 1 ∷ 3 ∷ []
first_ones = refl

-- not by their numbers
not_by_number : ¬ (first_of_each (0 ∷ 2 ∷ 0 ∷ 1 ∷ []) ≡ 0 ∷ 1 ∷ 2 ∷ [])
not_by_number e = grind arith

-- the square 0-1, 0-2, 1-3, 2-3, where 3 has the parent 1
abbrev pub square : Network
square = record { nodes = 4; root = 0; capacity = 1; lease = 0; edges = (0, 1) ∷ (0, 2) ∷ (1, 3) ∷ (2, 3) ∷ [] }

-- the root's smallest child comes last, with all below it
square_lanes : first_visits square ≡ 0 ∷ 2 ∷ 1 ∷ 3 ∷ []
square_lanes = refl

-- ---- the tree

-- node 3 has two neighbours that are one nearer to the root: the edge to the smaller one is in the
-- tree
thick_edge : is_on_tree square 3 1 ≡ true
thick_edge = refl

thin_edge : is_on_tree square 2 3 ≡ false
thin_edge = refl

-- ---- runs

abbrev pub run_of : ℕ → ℕ → Mark → Run
run_of first count mark = record { first = first; count = count; mark = mark }

-- two settled columns, then a wrong one
two_runs : AreRuns (Settled ∷ Settled ∷ Wrong ∷ []) (run_of 0 2 Settled ∷ run_of 2 1 Wrong ∷ [])
two_runs = record { are = refl; stand = (refl, omega arith, (refl, omega arith, tt)); apart = ((λ e. grind arith), tt) }

-- adjacent columns with one mark are one run
no_torn_run : ¬ AreRuns (Settled ∷ Settled ∷ []) (run_of 0 1 Settled ∷ run_of 1 1 Settled ∷ [])
no_torn_run runs = runs.apart.0 refl

-- a run ends where the mark changes
no_swallowed_mark : ¬ AreRuns (Settled ∷ Wrong ∷ []) (run_of 0 2 Settled ∷ [])
no_swallowed_mark runs = grind (arith, runs.are)

-- ---- what was before the first moment shown

abbrev window_of : ℕ → ℕ → Window
window_of from to = record { from = from; to = to }

abbrev before_of : ℕ → ℕ → Before
before_of events sweeps = record { events = events; sweeps = sweeps }

-- if the start is shown, nothing was before it
none_before : (start : World) → IsBefore (window_of 0 9) start [] (before_of 0 0)
none_before start = record { front = []; back = []; are = refl; first = AtStart (moment_of start false 0 0) Start; events_are = refl }

-- and no sweep either
none_at_start : (window : Window) (start : World) (es : List Event) (sweeps : ℕ) → IsFirstHeld window start es sweeps → length es ≡ 0 → sweeps ≡ 0
none_at_start window start es sweeps (AtStart moment are) none = refl
none_at_start window start es sweeps (Following e moment before are) none = grind (arith, common_steps)

no_sweep_before : (window : Window) (start : World) → ¬ IsBefore window start [] (before_of 0 1)
no_sweep_before window start before =
    let none : 1 ≡ 0 = none_at_start window start before.front 1 before.first (sym before.events_are) in
    omega (arith, none)

-- a run without events shows nothing from the first sweep on
none_shown : (start : World) → AreMoments (window_of 1 9) start [] 0 []
none_shown start = Start
