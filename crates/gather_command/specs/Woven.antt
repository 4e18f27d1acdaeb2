-- A weaving, one step after the other.
use Rattle.std.specs.Prelude.{◌≡◌, ℕ, ◌<◌, ◌≤◌, ◌⊎◌, Bool, true, false, List, [], ◌∷◌, Option, Some, None, Result, Ok, Err, replicate, length, slice_set, slice_get, fold}
use Rattle.topology.specs.Network.{Network}
use Rattle.record_pages.specs.byte_streams.Streams.{Rose}
use Rattle.record_gathering.specs.View.{GatheringView, gathered}
use Rattle.record_gathering.specs.declared.found.EventCounts.{EventCounts}
use Rattle.record_gathering.specs.configuration.run_model.World.{World}
use Rattle.record_gathering.specs.configuration.run_model.Start.{world_with_spares}
use Rattle.record_gathering.specs.configuration.run_model.declared.event.Event.{Event}
use Rattle.record_gathering.specs.flight_records.declared.entry.Entry.{Entry}
use Rattle.record_gathering.specs.Order.{IsNext, head_of}
use Rattle.record_gathering.specs.Queues.{queues_after}
use Rattle.gather_command.specs.declared.fault.Flaw.{Flaw}
use Rattle.gather_command.specs.declared.fault.GatherFault.{GatherFault}
use Rattle.gather_command.specs.declared.fault.GatherFault.TheVariants as fault
use Rattle.gather_command.specs.View.{NodeRecordView, heads_in}
use Rattle.gather_command.specs.WeavingView.{WeavingView}
use Rattle.gather_command.specs.Records.{GoesOn, AreToCome}
use Rattle.gather_command.specs.Weave.{Moment, moment_at, world_after, events_of, IsLed}
use Rattle.gather_command.specs.Watch.{seen_after, seen_again, nothing_seen}

-- the world of a weaving
abbrev pub world_in : WeavingView → World
world_in w = gathered w.gathering

-- a weaving of these records, of which nothing is woven yet
pub record IsAtStart (net : Network) (records : List NodeRecordView) (w : WeavingView) : Type 0 where
  pub world : world_in w ≡ world_with_spares net 8
  pub queues : w.gathering.queues ≡ replicate net.nodes []
  pub records_are : w.records ≡ records
  pub seen : w.seen ≡ nothing_seen net.nodes

-- Whose entry comes next, and which one it is; none if all records are read to their ends. There is a
-- record for each node.
abbrev pub IsTurn : WeavingView → Option (ℕ × Entry) → Type 0
IsTurn w None =
    IsNext (world_in w) (heads_in w.records) (world_in w).net.nodes None × ((world_in w).net.nodes ≡ length w.records)
IsTurn w (Some (v, e)) =
    IsNext (world_in w) (heads_in w.records) (world_in w).net.nodes (Some v) × (head_of (heads_in w.records) v ≡ Some e)
    × ((world_in w).net.nodes ≡ length w.records)

-- an entry of v's record became events; it is not yet passed over
pub record IsNoted (old : WeavingView) (v : ℕ) (e : Entry) (new : WeavingView) : Type 0 where
  pub world : world_in new ≡ world_after (world_in old) old.gathering.queues v e
  pub queues : new.gathering.queues ≡ queues_after old.gathering.queues v e.noted
  pub records : new.records ≡ old.records
  pub seen : new.seen ≡ seen_after old.seen (moment_at (world_in old) old.gathering.queues v e)

-- v's record went on, and all else stayed
abbrev pub HasPassed : Type 0 → WeavingView → ℕ → WeavingView → Type 0
HasPassed Fails old v new =
    (before : NodeRecordView) × (after : NodeRecordView) × (slice_get old.records v ≡ Some before) × GoesOn Fails before after
    × (new ≡ record old { records = slice_set old.records v after })

-- the same weaving in the world of a gathering, which the events counted in `found` set up
abbrev pub moved_to : WeavingView → GatheringView → EventCounts → WeavingView
moved_to w g found = record {
  gathering = record w.gathering { configuration = g.configuration };
  records = w.records;
  seen = seen_again w.seen found;
}

-- What was to come of the records before is these entries, which lead the weaving on, and then what is to
-- come of the records from now on.
abbrev pub LeadsOn : Type 0 → WeavingView → List Moment → WeavingView → Type 0
LeadsOn Fails old ms new =
    (entries : List (List Entry)) (flaws : List Flaw) → AreToCome Fails new.records entries flaws
    → (before : List (List Entry)) × AreToCome Fails old.records before flaws
    × IsLed (world_in old) old.gathering.queues before ms (world_in new) new.gathering.queues entries

-- Entries were woven, and their events went nowhere: they lead the weaving on, and they were seen.
pub record HasLed (Fails : Type 0) (old : WeavingView) (ms : List Moment) (new : WeavingView) : Type 0 where
  pub leads : LeadsOn Fails old ms new
  pub seen : new.seen ≡ fold seen_after old.seen ms
  pub nodes : (world_in new).net.nodes ≡ (world_in old).net.nodes

-- the entry that comes next is of this instant or later, or none is left
abbrev pub IsCut : ℕ → WeavingView → Type 0
IsCut instant w =
    IsTurn w None ⊎ ((v : ℕ) × (e : Entry) × IsTurn w (Some (v, e)) × (instant ≤ e.instant))

-- these entries are all earlier
abbrev pub AreEarlier : ℕ → List Moment → Type 0
AreEarlier instant [] = Unit {0}
AreEarlier instant (m ∷ ms) = (m.entry.instant < instant) × AreEarlier instant ms

-- one entry that is earlier was woven; or the next one is not earlier, or none is left, and nothing
-- changed
abbrev pub IsOnePassed : Type 0 → ℕ → WeavingView → Bool → WeavingView → Type 0
IsOnePassed Fails instant old true new =
    (m : Moment) × HasLed Fails old (m ∷ []) new × (m.entry.instant < instant)
IsOnePassed Fails instant old false new = (new ≡ old) × IsCut instant old

-- all entries were woven that come before the first one of this instant or later
pub record ArePassed (Fails : Type 0) (instant : ℕ) (old : WeavingView) (ms : List Moment) (new : WeavingView) : Type 0 where
  pub led : HasLed Fails old ms new
  pub earlier : AreEarlier instant ms
  pub cut : IsCut instant new

-- Entries were woven: they lead the weaving on, a sink took their events, and they were seen. `takes`
-- says what a sink took, and `failures` how often it failed.
pub record HasWoven {K : Type 0} (Fails : Type 0) (takes : K → List Event → K → Type 0) (failures : K → ℕ)
    (old : WeavingView) (before : K) (ms : List Moment) (new : WeavingView) (after : K) : Type 0 where
  pub leads : LeadsOn Fails old ms new
  pub taken : takes before (events_of ms) after
  pub seen : new.seen ≡ fold seen_after old.seen ms
  pub counted : failures before ≤ failures after

-- why weaving ends before all is woven: the sink failed, or memory ran out, or there are too many entries
abbrev pub IsBroken : GatherFault → ℕ → ℕ → Type 0
IsBroken fault.Output failures more = Rose failures more
IsBroken fault.Memory failures more = Unit {0}
IsBroken fault.TooMany failures more = Unit {0}
IsBroken (fault.Absent v) failures more = ⊥
IsBroken (fault.Unreadable f) failures more = ⊥
IsBroken (fault.NoRecord f) failures more = ⊥
IsBroken (fault.OtherNetwork f) failures more = ⊥
IsBroken (fault.OtherNode f v) failures more = ⊥

-- one entry was woven; or none is left, and nothing changed
abbrev pub IsOneWoven : {K : Type 0} → Type 0 → (K → List Event → K → Type 0) → (K → ℕ)
    → WeavingView → K → Result Bool GatherFault → WeavingView → K → Type 0
IsOneWoven Fails takes failures old before (Ok true) new after =
    (m : Moment) × HasWoven Fails takes failures old before (m ∷ []) new after
IsOneWoven Fails takes failures old before (Ok false) new after =
    (new ≡ old) × (after ≡ before) × IsTurn old None
IsOneWoven Fails takes failures old before (Err why) new after =
    IsBroken why (failures before) (failures after)

-- all entries were woven
abbrev pub AreAllWoven : {K : Type 0} → Type 0 → (K → List Event → K → Type 0) → (K → ℕ)
    → WeavingView → K → Result (Unit {0}) GatherFault → WeavingView → K → Type 0
AreAllWoven Fails takes failures old before (Ok x) new after =
    (ms : List Moment) × HasWoven Fails takes failures old before ms new after × IsTurn new None
AreAllWoven Fails takes failures old before (Err why) new after =
    IsBroken why (failures before) (failures after)
