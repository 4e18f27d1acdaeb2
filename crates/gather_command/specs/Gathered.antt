-- What is gathered of the records of all nodes.
use Rattle.std.specs.Prelude.{◌≡◌, ℕ, List, [], Option, None, replicate, length}
use Rattle.topology.specs.Network.{Network}
use Rattle.record_pages.specs.byte_streams.Streams.{Rose}
use Rattle.node_recorder.specs.Turns.{network_mark}
use Rattle.record_gathering.specs.configuration.run_model.Start.{world_with_spares}
use Rattle.record_gathering.specs.configuration.run_model.declared.event.Event.{Event}
use Rattle.record_gathering.specs.flight_records.declared.entry.Entry.{Entry}
use Rattle.flight_recorder.specs.declared.recorder.Side.{Side}
use Rattle.gather_command.specs.declared.fault.Flaw.{Flaw}
use Rattle.gather_command.specs.declared.fault.FlawKind.{FlawKind}
use Rattle.gather_command.specs.declared.fault.GatherFault.{GatherFault}
use Rattle.gather_command.specs.declared.fault.GatherFault.TheVariants as fault
use Rattle.gather_command.specs.declared.damage.Difference.{Difference}
use Rattle.gather_command.specs.declared.summary.RecordingSummary.{RecordingSummary}
use Rattle.gather_command.specs.View.{NodeRecordView}
use Rattle.gather_command.specs.Records.{AreRecordsOf, AreToCome, IsFault, flaws_in}
use Rattle.gather_command.specs.Weave.{Moment, events_of, IsWoven}
use Rattle.gather_command.specs.Watch.{seen_of, numbers_of, summary_of}
use Rattle.gather_command.specs.WeavingView.{WeavingView}
use Rattle.gather_command.specs.Woven.{IsTurn, HasWoven}

-- The files of all nodes' records were read, each to its end or to its flaw, and woven from the
-- network as it starts. A sink took the events of what was woven, and they are counted; the first
-- differences are listed. `Reads` says how the files are read, and `takes` what the sink took.
pub record IsGathered {K : Type 0} (Reads : ℕ → Side → List Entry → Option FlawKind → Type 0)
    (takes : K → List Event → K → Type 0) (net : Network) (before : K) (summary : RecordingSummary)
    (differences : List Difference) (flaws : List Flaw) (after : K) : Type 0 where
  pub entries : List (List Entry)
  pub moments : List Moment
  pub records : AreRecordsOf Reads (network_mark net) 0 entries flaws
  pub all : length entries ≡ net.nodes
  pub woven : IsWoven (world_with_spares net 8) (replicate net.nodes []) entries moments
  pub taken : takes before (events_of moments) after
  pub numbers : summary ≡ summary_of net.nodes moments
  pub differences_are : differences ≡ (seen_of net.nodes moments).damage.shown

-- the numbers, the first differences and the flaws of a weaving of all nodes' records
pub record IsFinished (net : Network) (w : WeavingView) (summary : RecordingSummary) (differences : List Difference)
    (flaws : List Flaw) : Type 0 where
  pub numbers : summary ≡ numbers_of net.nodes w.seen
  pub differences_are : differences ≡ w.seen.damage.shown
  pub flaws_are : flaws ≡ flaws_in w.records

-- All entries that were left were woven, and a sink took their events. This is what was seen.
pub record IsWovenOut {K : Type 0} (Fails : Type 0) (takes : K → List Event → K → Type 0) (failures : K → ℕ) (net : Network)
    (old : WeavingView) (before : K) (summary : RecordingSummary) (differences : List Difference) (flaws : List Flaw)
    (new : WeavingView) (after : K) : Type 0 where
  pub moments : List Moment
  pub woven : HasWoven Fails takes failures old before moments new after
  pub none_left : IsTurn new None
  pub shown : IsFinished net new summary differences flaws

-- All that was to come of the records of all nodes was woven from the network as it starts.
pub record IsGatheredWhole {K : Type 0} (Fails : Type 0) (takes : K → List Event → K → Type 0) (net : Network)
    (nodes : List NodeRecordView) (before : K) (summary : RecordingSummary) (differences : List Difference) (flaws : List Flaw)
    (after : K) : Type 0 where
  pub entries : List (List Entry)
  pub moments : List Moment
  pub come : AreToCome Fails nodes entries flaws
  pub woven : IsWoven (world_with_spares net 8) (replicate net.nodes []) entries moments
  pub taken : takes before (events_of moments) after
  pub numbers : summary ≡ summary_of net.nodes moments
  pub differences_are : differences ≡ (seen_of net.nodes moments).damage.shown

-- why nothing was gathered: the sink failed, or memory ran out, or there are too many entries; or a record
-- is missing, unreadable or invalid, and then the sink is as it was
abbrev pub IsRefused : {K : Type 0} → (ℕ → Side → List Entry → Option FlawKind → Type 0) → (ℕ → Side → Entry → Type 0)
    → (K → ℕ) → Network → K → GatherFault → K → Type 0
IsRefused Reads Begins failures net before fault.Output after = Rose (failures before) (failures after)
IsRefused Reads Begins failures net before fault.Memory after = Unit {0}
IsRefused Reads Begins failures net before fault.TooMany after = Unit {0}
IsRefused Reads Begins failures net before (fault.Absent v) after =
    IsFault Reads Begins (network_mark net) net.nodes (fault.Absent v) × (after ≡ before)
IsRefused Reads Begins failures net before (fault.Unreadable f) after =
    IsFault Reads Begins (network_mark net) net.nodes (fault.Unreadable f) × (after ≡ before)
IsRefused Reads Begins failures net before (fault.NoRecord f) after =
    IsFault Reads Begins (network_mark net) net.nodes (fault.NoRecord f) × (after ≡ before)
IsRefused Reads Begins failures net before (fault.OtherNetwork f) after =
    IsFault Reads Begins (network_mark net) net.nodes (fault.OtherNetwork f) × (after ≡ before)
IsRefused Reads Begins failures net before (fault.OtherNode f v) after =
    IsFault Reads Begins (network_mark net) net.nodes (fault.OtherNode f v) × (after ≡ before)

-- the records of the nodes from v on were opened: what they give from now on, they give from their starts
abbrev pub AreOpened : Type 0 → (ℕ → Side → List Entry → Option FlawKind → Type 0) → ℕ → ℕ → List NodeRecordView → Type 0
AreOpened Fails Reads mark v rs =
    (entries : List (List Entry)) (flaws : List Flaw) → AreToCome Fails rs entries flaws
    → AreRecordsOf Reads mark v entries flaws × (length entries ≡ length rs)
