-- Small examples of what a moment changes, and of lanes, with some that fail.
use Rattle.std.proofs.Common.{◌≡◌, ◌≢◌, ℕ, false, List, [], ◌∷◌, refl, arith}
use Rattle.std.proofs.lemmas.Grind.{common_steps}
use Rattle.layers.specs.declared.whole.Layers.{Layers}
use Rattle.world.specs.run_model.World.{World}
use Rattle.run_recording.proofs.RowsTwo.{calm}
use Rattle.run_recording.specs.declared.change.Change.TheVariants.{Nothing, At, All}
use Rattle.run_recording.specs.declared.column.Column.{Column}
use Rattle.run_recording.specs.declared.column.Counts.{Counts}
use Rattle.run_recording.specs.declared.mark.Mark.{Mark}
use Rattle.run_recording.specs.declared.mark.Mark.TheVariants.{Settled, Wrong, Privileged}
use Rattle.run_recording.specs.Columns.{column_of, AreAsBad, AreChangedBy, ArisesFrom, Follows, IsCovered}
use Rattle.run_recording.specs.Laned.{AreEnds, left_after, seconds}
use Rattle.run_recording.specs.Laned.AreEnds.{Left, Full}

-- ---- which marks have changed

changed-one : AreChangedBy (At 1) (Settled ∷ Settled ∷ []) (Settled ∷ Wrong ∷ [])
changed-one = (omega arith, refl)

changed_not-elsewhere : ¬ AreChangedBy (At 1) (Settled ∷ Settled ∷ []) (Wrong ∷ Settled ∷ [])
changed_not-elsewhere c = grind (arith, common_steps, c.1)

changed-nothing : AreChangedBy Nothing (Wrong ∷ []) (Wrong ∷ [])
changed-nothing = refl

changed_not-nothing : ¬ AreChangedBy Nothing (Settled ∷ []) (Wrong ∷ [])
changed_not-nothing c = grind (arith, common_steps, c)

-- ---- marks that are not worse

as_bad : AreAsBad (Wrong ∷ Wrong ∷ []) (Settled ∷ Wrong ∷ [])
as_bad = refl

as_bad_not-worse : ¬ AreAsBad (Wrong ∷ Wrong ∷ []) (Settled ∷ Privileged ∷ [])
as_bad_not-worse b = grind (arith, common_steps, b)

-- a node that was at most as bad becomes worse
arises-one : ArisesFrom (Wrong ∷ Wrong ∷ []) (At 1) (Settled ∷ Privileged ∷ [])
arises-one = (Settled ∷ Wrong ∷ [], refl, (omega arith, refl))

arises_not-nothing : ¬ ArisesFrom (Settled ∷ []) Nothing (Wrong ∷ [])
arises_not-nothing a = grind (arith, common_steps, a)

-- ---- the last column

abbrev counts : Counts
counts = record { privileged = 2; lending = 0; sweeps = 1; damaged = false; sharp = false; bound = false }

abbrev of_mark : Mark → Column
of_mark mark = column_of (mark ∷ []) counts

column-counts : (of_mark Wrong).privileged ≡ 2
column-counts = refl

covered-last : IsCovered (of_mark Settled ∷ of_mark Wrong ∷ []) (Wrong ∷ [])
covered-last = refl

covered_not-first : ¬ IsCovered (of_mark Wrong ∷ of_mark Settled ∷ []) (Wrong ∷ [])
covered_not-first c = grind (arith, common_steps, c)

follows-last : Follows (of_mark Settled ∷ of_mark Wrong ∷ []) Nothing (Wrong ∷ [])
follows-last = refl

follows_not-first : ¬ Follows (of_mark Wrong ∷ of_mark Settled ∷ []) Nothing (Wrong ∷ [])
follows_not-first f = grind (arith, common_steps, f)

follows-all : Follows (of_mark Settled ∷ []) All (Wrong ∷ [])
follows-all = tt

-- ---- lanes

seconds-three : seconds {X = ℕ} (1 ∷ 2 ∷ 3 ∷ []) ≡ 2 ∷ []
seconds-three = refl

seconds_not-first : seconds {X = ℕ} (1 ∷ 2 ∷ []) ≢ 1 ∷ []
seconds_not-first = grind arith

-- of three columns of four moments, the third one is left
left-odd : left_after 3 4 ≡ 4
left-odd = refl

left-even : left_after 2 4 ≡ 0
left-even = refl

-- one moment is not a full column of two
ends-none : AreEnds 2 1 (calm ∷ []) []
ends-none = Left (calm ∷ []) refl (omega arith)

no_ends : (left : ℕ) (worlds : List World) (states : List Layers) → left ≡ 1 → worlds ≡ [] → states ≡ [] → ¬ AreEnds 2 left worlds states
no_ends left worlds states one none are (Left ws long room) = grind (arith, common_steps, long, one, none)
no_ends left worlds states one none are (Full before w layers is settled rest) = grind (arith, common_steps, are)

ends_not-without : ¬ AreEnds 2 1 [] []
ends_not-without = no_ends 1 [] [] refl refl refl
