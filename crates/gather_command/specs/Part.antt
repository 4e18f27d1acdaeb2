-- What is gathered of a stretch of the records of all nodes.
use Rattle.std.specs.Prelude.{◌≡◌, ℕ, ◌≤◌, ◌⊎◌, List, [], ◌++◌, Option, Some, None, replicate, length, fold}
use Rattle.topology.specs.Network.{Network}
use Rattle.node_recorder.specs.Turns.{network_mark}
use Rattle.record_gathering.specs.Counts.{with_events, nothing}
use Rattle.record_gathering.specs.Order.{IsNext, head_of}
use Rattle.record_gathering.specs.configuration.run_model.World.{World}
use Rattle.record_gathering.specs.configuration.run_model.Run.{run}
use Rattle.record_gathering.specs.configuration.run_model.Start.{world_with_spares}
use Rattle.record_gathering.specs.configuration.run_model.declared.event.Event.{Event}
use Rattle.record_gathering.specs.flight_records.declared.entry.Entry.{Entry}
use Rattle.flight_recorder.specs.declared.recorder.Side.{Side}
use Rattle.gather_command.specs.declared.fault.Flaw.{Flaw}
use Rattle.gather_command.specs.declared.fault.FlawKind.{FlawKind}
use Rattle.gather_command.specs.declared.damage.Difference.{Difference}
use Rattle.gather_command.specs.declared.summary.RecordingSummary.{RecordingSummary}
use Rattle.gather_command.specs.declared.stretch.TimeStretch.{TimeStretch}
use Rattle.gather_command.specs.declared.stretch.TimeStretch.TheVariants as stretch
use Rattle.gather_command.specs.View.{NodeRecordView}
use Rattle.gather_command.specs.Records.{AreRecordsOf, AreToCome}
use Rattle.gather_command.specs.Weave.{Moment, heads_of, events_of, IsLed, IsWoven}
use Rattle.gather_command.specs.Watch.{Seen, seen_after, seen_again, seen_of, numbers_of}
use Rattle.gather_command.specs.WeavingView.{WeavingView}
use Rattle.gather_command.specs.Woven.{world_in, moved_to, AreEarlier, ArePassed}
use Rattle.gather_command.specs.Scene.{SceneView, events_to, IsSetUp}
use Rattle.gather_command.specs.Stretch.{after_first, before_last, least_of, IsLatest}
use Rattle.gather_command.specs.Gathered.{IsGathered, IsWovenOut}

-- of the entries that are still to come, the next one is of this instant or later; or none is left
abbrev pub IsFromThenOn : ℕ → World → List (List Entry) → Type 0
IsFromThenOn instant w left =
    IsNext w (heads_of left) w.net.nodes None
    ⊎ ((v : ℕ) × (e : Entry) × IsNext w (heads_of left) w.net.nodes (Some v) × (head_of (heads_of left) v ≡ Some e)
    × (instant ≤ e.instant))

-- what is seen of entries, if others were woven before and events then set up the world
abbrev pub seen_from : ℕ → List Moment → List Event → List Moment → Seen
seen_from n front es back = fold seen_after (seen_again (seen_of n front) (with_events nothing es)) back

-- the network was set up as the world of a weaving stood, and the weaving went on there
abbrev pub IsSetThere : {K : Type 0} → (K → List Event → K → Type 0) → (K → ℕ) → Network → WeavingView → K → WeavingView → K → Type 0
IsSetThere takes failures net old before new after =
    (scene : SceneView) × IsSetUp takes failures net (world_in old) before scene after
    × (new ≡ moved_to old scene.gathering scene.found)

-- Entries were woven up to the first one of an instant or later, and their events went nowhere. Then the
-- network was set up as the world stood, and all other entries were woven from there.
pub record IsWovenFrom {K : Type 0} (Fails : Type 0) (takes : K → List Event → K → Type 0) (failures : K → ℕ) (net : Network)
    (instant : ℕ) (old : WeavingView) (before : K) (summary : RecordingSummary) (differences : List Difference) (flaws : List Flaw)
    (new : WeavingView) (after : K) : Type 0 where
  pub front : List Moment
  pub mid : WeavingView
  pub moved : WeavingView
  pub between : K
  pub passed : ArePassed Fails instant old front mid
  pub set : IsSetThere takes failures net mid before moved between
  pub rest : IsWovenOut Fails takes failures net moved between summary differences flaws new after

-- The entries were woven from the network as it starts, up to the first one of an instant or later, and
-- led to a world. A sink took the events that set up the network as that world stands, and those of the
-- other entries, which were woven from there. They are counted, and the first differences of these entries
-- are listed.
pub record IsPart {K : Type 0} (takes : K → List Event → K → Type 0) (net : Network) (instant : ℕ)
    (entries : List (List Entry)) (before : K) (summary : RecordingSummary) (differences : List Difference) (after : K) : Type 0 where
  pub front : List Moment
  pub back : List Moment
  pub world : World
  pub queues : List (List ℕ)
  pub left : List (List Entry)
  pub begun : IsLed (world_with_spares net 8) (replicate net.nodes []) entries front world queues left
  pub earlier : AreEarlier instant front
  pub cut : IsFromThenOn instant world left
  pub woven : IsWoven (run (world_with_spares net 8) (events_to net world)) queues left back
  pub taken : takes before (events_to net world ++ events_of back) after
  pub numbers : summary ≡ numbers_of net.nodes (seen_from net.nodes front (events_to net world) back)
  pub differences_are : differences ≡ (seen_from net.nodes front (events_to net world) back).damage.shown

-- A stretch was gathered of what was to come of the records of all nodes.
pub record IsGatheredOf {K : Type 0} (Fails : Type 0) (takes : K → List Event → K → Type 0) (net : Network) (instant : ℕ)
    (nodes : List NodeRecordView) (before : K) (summary : RecordingSummary) (differences : List Difference) (flaws : List Flaw)
    (after : K) : Type 0 where
  pub entries : List (List Entry)
  pub come : AreToCome Fails nodes entries flaws
  pub part : IsPart takes net instant entries before summary differences after

-- The files of all nodes' records were read, each to its end or to its flaw, and the stretch of
-- them that begins at an instant was gathered. `BeginsAt` says which instant it is.
pub record IsGatheredFrom {K : Type 0} (Reads : ℕ → Side → List Entry → Option FlawKind → Type 0)
    (takes : K → List Event → K → Type 0) (net : Network) (BeginsAt : List (List Entry) → ℕ → Type 0) (before : K)
    (summary : RecordingSummary) (differences : List Difference) (flaws : List Flaw) (after : K) : Type 0 where
  pub entries : List (List Entry)
  pub instant : ℕ
  pub records : AreRecordsOf Reads (network_mark net) 0 entries flaws
  pub all : length entries ≡ net.nodes
  pub begins : BeginsAt entries instant
  pub part : IsPart takes net instant entries before summary differences after

-- where the last seconds of the records begin; the records were read to their ends before
pub record IsBeforeLast (Reads : ℕ → Side → List Entry → Option FlawKind → Type 0) (net : Network) (seconds instant : ℕ) : Type 0 where
  pub latest : ℕ
  pub is_latest : IsLatest Reads net latest
  pub before : instant ≡ before_last latest seconds

-- a stretch of the records of all nodes was gathered
abbrev pub IsGatheredAs : {K : Type 0} → TimeStretch → (ℕ → Side → List Entry → Option FlawKind → Type 0)
    → (K → List Event → K → Type 0) → Network → K → RecordingSummary → List Difference → List Flaw → K → Type 0
IsGatheredAs stretch.Whole Reads takes net before summary differences flaws after =
    IsGathered Reads takes net before summary differences flaws after
IsGatheredAs (stretch.From seconds) Reads takes net before summary differences flaws after =
    IsGatheredFrom Reads takes net (λ entries instant. instant ≡ after_first (least_of (heads_of entries)) seconds)
    before summary differences flaws after
IsGatheredAs (stretch.Last seconds) Reads takes net before summary differences flaws after =
    IsGatheredFrom Reads takes net (λ entries instant. IsBeforeLast Reads net seconds instant)
    before summary differences flaws after
