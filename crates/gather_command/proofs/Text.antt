-- The text of what is gathered.
use Rattle.std.proofs.Common.{◌∙◌, ℕ, List, ◌++◌, Option, Some, None}
use Rattle.std.specs.Io.KnownBytes.{Keeps}
use Rattle.topology.specs.Network.{Network}
use Rattle.command_parts.specs.EventText.{GrowsByText}
use Rattle.record_gathering.specs.configuration.run_model.declared.event.Event.{Event}
use Rattle.record_gathering.specs.flight_records.declared.entry.Entry.{Entry}
use Rattle.flight_recorder.specs.declared.recorder.Side.{Side}
use Rattle.gather_command.specs.declared.damage.Difference.{Difference}
use Rattle.gather_command.specs.declared.fault.Flaw.{Flaw}
use Rattle.gather_command.specs.declared.fault.FlawKind.{FlawKind}
use Rattle.gather_command.specs.declared.summary.RecordingSummary.{RecordingSummary}
use Rattle.gather_command.specs.Weave.{events_of}
use Rattle.gather_command.specs.Gathered.{IsGathered}
use Rattle.gather_command.specs.declared.stretch.TimeStretch.{TimeStretch}
use Rattle.gather_command.specs.declared.stretch.TimeStretch.TheVariants as stretch
use Rattle.gather_command.specs.Scene.{events_to}
use Rattle.gather_command.specs.Part.{IsPart, IsGatheredFrom, IsGatheredAs}

-- bytes that are kept have grown by the same text
pub grows-kept : (a b c : Option (List ℕ)) (es : List Event) → GrowsByText a es b → Keeps b c → GrowsByText a es c
grows-kept None b c es grown kept = tt
grows-kept (Some xs) None c es grown kept = absurd grown
grows-kept (Some xs) (Some ys) None es grown kept = absurd kept
grows-kept (Some xs) (Some ys) (Some zs) es grown kept = kept ∙ grown

-- a sink that has taken the same events
gathered-later : {K : Type 0} (R : ℕ → Side → List Entry → Option FlawKind → Type 0) (takes : K → List Event → K → Type 0)
    (net : Network) (before mid after : K) (summary : RecordingSummary) (differences : List Difference)
    (flaws : List Flaw) → ((es : List Event) → takes before es mid → takes before es after)
    → IsGathered R takes net before summary differences flaws mid → IsGathered R takes net before summary differences flaws after
gathered-later R takes net before mid after summary differences flaws more x = record {
  entries = x.entries;
  moments = x.moments;
  records = x.records;
  all = x.all;
  woven = x.woven;
  taken = more (events_of x.moments) x.taken;
  numbers = x.numbers;
  differences_are = x.differences_are;
}

part-later : {K : Type 0} (takes : K → List Event → K → Type 0) (net : Network) (instant : ℕ) (entries : List (List Entry))
    (before mid after : K) (summary : RecordingSummary) (differences : List Difference)
    → ((es : List Event) → takes before es mid → takes before es after)
    → IsPart takes net instant entries before summary differences mid → IsPart takes net instant entries before summary differences after
part-later takes net instant entries before mid after summary differences more x = record {
  front = x.front;
  back = x.back;
  world = x.world;
  queues = x.queues;
  left = x.left;
  begun = x.begun;
  earlier = x.earlier;
  cut = x.cut;
  woven = x.woven;
  taken = more (events_to net x.world ++ events_of x.back) x.taken;
  numbers = x.numbers;
  differences_are = x.differences_are;
}

from-later : {K : Type 0} (R : ℕ → Side → List Entry → Option FlawKind → Type 0) (takes : K → List Event → K → Type 0)
    (net : Network) (BeginsAt : List (List Entry) → ℕ → Type 0) (before mid after : K) (summary : RecordingSummary)
    (differences : List Difference) (flaws : List Flaw) → ((es : List Event) → takes before es mid → takes before es after)
    → IsGatheredFrom R takes net BeginsAt before summary differences flaws mid
    → IsGatheredFrom R takes net BeginsAt before summary differences flaws after
from-later R takes net BeginsAt before mid after summary differences flaws more x = record {
  entries = x.entries;
  instant = x.instant;
  records = x.records;
  all = x.all;
  begins = x.begins;
  part = part-later takes net x.instant x.entries before mid after summary differences more x.part;
}

pub as-later : {K : Type 0} (s : TimeStretch) (R : ℕ → Side → List Entry → Option FlawKind → Type 0)
    (takes : K → List Event → K → Type 0) (net : Network) (before mid after : K) (summary : RecordingSummary)
    (differences : List Difference) (flaws : List Flaw) → ((es : List Event) → takes before es mid → takes before es after)
    → IsGatheredAs s R takes net before summary differences flaws mid → IsGatheredAs s R takes net before summary differences flaws after
as-later stretch.Whole R takes net before mid after summary differences flaws more x =
    gathered-later R takes net before mid after summary differences flaws more x
as-later (stretch.From seconds) R takes net before mid after summary differences flaws more x =
    from-later R takes net _ before mid after summary differences flaws more x
as-later (stretch.Last seconds) R takes net before mid after summary differences flaws more x =
    from-later R takes net _ before mid after summary differences flaws more x
