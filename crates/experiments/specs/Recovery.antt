-- After how many sweeps a run serves, and each layer of the proof stands.
use Rattle.std.specs.Prelude.{◌≡◌, ℕ, ◌+◌, Bool, true, false, IsTrue, List, [], ◌∷◌, ◌++◌, length, Option, Some, None, ◌⊎◌}
use Rattle.run_model.specs.World.{World, IsWorldInRange}
use Rattle.run_model.specs.Step.{step}
use Rattle.run_model.specs.Run.{run}
use Rattle.run_model.specs.Count.{IsSweepCount}
use Rattle.run_model.specs.Headline.{IsServing}
use Rattle.run_model.specs.Links.{AreLinksStable}
use Rattle.run_model.specs.Tree.{IsTreeReached}
use Rattle.run_model.specs.declared.event.Event.{Event}
use Rattle.layers.specs.convergence.Ring.{IsTokenRingGood}
use Rattle.layers.specs.convergence.Legitimate.{IsLegitimate}
use Rattle.judge.specs.Judging.{counted_up_to}
use Rattle.judge.specs.JudgeView.{JudgeView, HasSeen}
use Rattle.experiments.specs.declared.layers_seen.LayersSeen.{LayersSeen}
use Rattle.experiments.specs.declared.watch.LastFailures.{LastFailures}

-- what contracts see of a watch: the judge of the run, and when the run last failed
pub record WatchView : Type 0 where
  pub judge : JudgeView
  pub last : LastFailures

-- the fact holds after each of these events
abbrev pub HoldsAfterEach : (World → Type 0) → World → List Event → Type 0
HoldsAfterEach Fact w [] = Unit {0}
HoldsAfterEach Fact w (e ∷ es) = Fact (step w e) × HoldsAfterEach Fact (step w e) es

-- The fact failed after these first events, among which there were this many sweeps, and never
-- failed after that.
pub record IsLastFailure (Fact : World → Type 0) (start : World) (es : List Event) (sweeps : ℕ) : Type 0 where
  pub front : List Event
  pub back : List Event
  pub parts : es ≡ front ++ back
  pub count : ℕ
  pub counted : IsSweepCount start front count
  pub sweeps_are : sweeps ≡ counted_up_to count
  pub fails : ¬ Fact (run start front)
  pub holds_then : HoldsAfterEach Fact (run start front) back

-- what is known of the last failure of a fact along a run: if there is none, it holds at every moment
abbrev pub FailsLast : (World → Type 0) → World → List Event → Option ℕ → Type 0
FailsLast Fact start es None = Fact start × HoldsAfterEach Fact start es
FailsLast Fact start es (Some sweeps) = IsLastFailure Fact start es sweeps

-- the same of whether the network serves
abbrev pub FailedLast : World → List Event → Option ℕ → Type 0
FailedLast = FailsLast IsServing

-- The same of each layer of the proof, and how many events there were. A world that is said to have
-- settled is legitimate.
pub record AreLayersSeen (start : World) (es : List Event) (l : LayersSeen) : Type 0 where
  pub events_are : l.events ≡ counted_up_to (length es)
  pub links : FailsLast AreLinksStable start es l.links
  pub tree : FailsLast IsTreeReached start es l.tree
  pub ring : FailsLast IsTokenRingGood start es l.ring
  pub settled : IsTrue l.settled → IsLegitimate (run start es)

-- what is known of the layers, which are looked at or not
abbrev pub AreAnyLayersSeen : Bool → World → List Event → Option LayersSeen → Type 0
AreAnyLayersSeen true start es (Some l) = AreLayersSeen start es l
AreAnyLayersSeen true start es None = ⊥
AreAnyLayersSeen false start es (Some l) = ⊥
AreAnyLayersSeen false start es None = Unit {0}

-- how a watch begins: in which world, and whether it looks at the layers
pub record Beginning : Type 0 where
  pub world : World
  pub layered : Bool

abbrev pub beginning : World → Bool → Beginning
beginning w layered = record { world = w; layered = layered }

-- The judge has seen the events, and the last failures are those of the run.
pub record IsWatched (start : Beginning) (es : List Event) (judge : JudgeView) (last : LastFailures) : Type 0 where
  pub seen : HasSeen judge start.world es
  pub failed : FailedLast start.world es last.serving
  pub layers : AreAnyLayersSeen start.layered start.world es last.layers

-- one moment more: if the fact holds now the last failure is the one before, else it is now
abbrev pub IsLastNow : (World → Type 0) → World → ℕ → Option ℕ → Option ℕ → Type 0
IsLastNow Fact now sweeps before after = (Fact now × (after ≡ before)) ⊎ ((¬ Fact now) × (after ≡ Some sweeps))

-- no layer has been seen to fail
abbrev pub unseen : LayersSeen
unseen = record { events = 0; links = None; tree = None; ring = None; settled = false }

-- the same of each layer
pub record AreLayersNow (now : World) (sweeps : ℕ) (before after : LayersSeen) : Type 0 where
  pub links : IsLastNow AreLinksStable now sweeps before.links after.links
  pub tree : IsLastNow IsTreeReached now sweeps before.tree after.tree
  pub ring : IsLastNow IsTokenRingGood now sweeps before.ring after.ring
  pub settled : IsTrue after.settled → IsLegitimate now

-- the same of the first moment, if the layers are looked at
abbrev pub AreAnyLayersFirst : World → ℕ → Bool → Option LayersSeen → Type 0
AreAnyLayersFirst now sweeps true (Some l) = (l.events ≡ 0) × AreLayersNow now sweeps unseen l
AreAnyLayersFirst now sweeps true None = ⊥
AreAnyLayersFirst now sweeps false (Some l) = ⊥
AreAnyLayersFirst now sweeps false None = Unit {0}

-- Whatever run the layers were seen of before, they are afterwards seen of that run with one more
-- event, which led to this world and to this many sweeps.
abbrev pub LayersGoOn : World → Event → ℕ → LayersSeen → LayersSeen → Type 0
LayersGoOn now e sweeps before after =
    (start : World) (es : List Event) (count : ℕ) → IsWorldInRange start → now ≡ run start (es ++ e ∷ [])
    → IsSweepCount start (es ++ e ∷ []) count → sweeps ≡ counted_up_to count
    → AreLayersSeen start es before → AreLayersSeen start (es ++ e ∷ []) after

-- the same of layers that are looked at or not
abbrev pub AnyLayersGoOn : World → Event → ℕ → Option LayersSeen → Option LayersSeen → Type 0
AnyLayersGoOn now e sweeps (Some before) (Some after) = LayersGoOn now e sweeps before after
AnyLayersGoOn now e sweeps (Some before) None = ⊥
AnyLayersGoOn now e sweeps None (Some after) = ⊥
AnyLayersGoOn now e sweeps None None = Unit {0}

-- one sweep more than at the last failure; 0 if there was no failure
abbrev pub counted_from : Option ℕ → ℕ
counted_from None = 0
counted_from (Some last) = counted_up_to (last + 1)
