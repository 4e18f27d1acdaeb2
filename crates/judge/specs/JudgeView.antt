-- What contracts see of a judge.
use Rattle.std.specs.Prelude.{◌≡◌, ℕ, ◌+◌, not, ◌&&◌, nat_lt, List, [], ◌∷◌, ◌++◌}
use Rattle.configuration.specs.run_model.World.{World}
use Rattle.configuration.specs.run_model.Run.{run}
use Rattle.configuration.specs.run_model.Sweep.{has_full_tick, is_renewed}
use Rattle.configuration.specs.run_model.Stretch.{old_items}
use Rattle.configuration.specs.run_model.Count.{IsSweepCount, after_damage}
use Rattle.configuration.specs.run_model.Greedy.{IsCounted}
use Rattle.configuration.specs.run_model.declared.event.Event.{Event}
use Rattle.judge.specs.Judging.{counted_up_to, refused_in, IsJudging}
use Rattle.judge.specs.Stretch.{StretchView, has_bit}
use Rattle.judge.specs.declared.tallies.Tally.{Tally}
use Rattle.judge.specs.Visited.{AreVisited}
use Rattle.configuration.specs.ConfigurationView.{ConfigurationView, world_of}

-- the nodes and links now, what is kept of the unfinished stretch, the counts, and the mask of
-- visited nodes
pub record JudgeView : Type 0 where
  pub configuration : ConfigurationView
  pub stretch : StretchView
  pub sweeps : ℕ
  pub refused : ℕ
  pub visited : ℕ

-- the judge has seen these events happen from this start on
pub record HasSeen (j : JudgeView) (start : World) (es : List Event) : Type 0 where
  pub judging : IsJudging start es (world_of j.configuration) j.stretch j.sweeps j.refused
  pub visited : AreVisited start es j.visited

-- what the old judge has seen, the new one has seen too, and then the event
abbrev pub HasSeenNext : JudgeView → Event → JudgeView → Type 0
HasSeenNext old e new = (start : World) (es : List Event) → HasSeen old start es → HasSeen new start (es ++ e ∷ [])

-- what the old judge has seen, the new one has seen too, and no more
abbrev pub HasSeenSame : JudgeView → JudgeView → Type 0
HasSeenSame old new = (start : World) (es : List Event) → HasSeen old start es → HasSeen new start es

-- after all that the judge has seen, the event ends a sweep: with it there is one more since the
-- last damage
abbrev pub EndsSweep : JudgeView → Event → Type 0
EndsSweep j e = (start : World) (es : List Event) → HasSeen j start es → (count : ℕ) × IsSweepCount start es count × IsSweepCount start (es ++ e ∷ []) (count + 1)

-- in all that the judge has seen, `sweeps` is the number of sweeps since the last damage, or the
-- greatest value of a count if there are more
abbrev pub AreSweepsSeen : JudgeView → ℕ → Type 0
AreSweepsSeen j sweeps = (start : World) (es : List Event) → HasSeen j start es → (count : ℕ) × IsSweepCount start es count × (sweeps ≡ counted_up_to count)

-- of all events that the judge has seen, `refused` is the number of refused ones, or the greatest
-- value of a count if there are more
abbrev pub AreRefusalsSeen : JudgeView → ℕ → Type 0
AreRefusalsSeen j refused = (start : World) (es : List Event) → HasSeen j start es → refused ≡ counted_up_to (refused_in start es)

-- in all that the judge has seen, the mask is that of the visited nodes
abbrev pub AreVisitedSeen : JudgeView → ℕ → Type 0
AreVisitedSeen j mask = (start : World) (es : List Event) → HasSeen j start es → AreVisited start es mask

-- Since the last damage the judge has seen sweeps, each ended at the first event that completed
-- it, and then a stretch that is not yet a sweep; and this holds for the world at which that
-- stretch began, and for its events.
abbrev pub HoldsOfStretch : JudgeView → (World → List Event → Type 0) → Type 0
HoldsOfStretch j Fact = (start : World) (es : List Event) → HasSeen j start es → (done stretch : List Event) × (count : ℕ) × ((after_damage start es).rest ≡ done ++ stretch) × IsCounted (after_damage start es).world done stretch count × Fact (run (after_damage start es).world done) stretch

-- the mask is that of the nodes without a full tick in the stretch
abbrev pub IsLackingSeen : JudgeView → ℕ → Type 0
IsLackingSeen j mask = HoldsOfStretch j (λ begun stretch. (v : ℕ) → has_bit mask v ≡ (nat_lt v begun.net.nodes && not (has_full_tick begun stretch v)))

-- the tally says how many of the items that were on the link from u to v when the stretch began
-- are still there, and whether the stretch renews it
abbrev pub IsTallySeen : JudgeView → ℕ → ℕ → Tally → Type 0
IsTallySeen j u v tally = HoldsOfStretch j (λ begun stretch. (tally.old ≡ old_items begun stretch u v) × (tally.renewed ≡ is_renewed begun stretch u v))
