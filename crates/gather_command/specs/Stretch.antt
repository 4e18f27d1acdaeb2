-- Where a stretch of time begins: by the earliest entry of all records, or by the latest one.
use Rattle.std.specs.Prelude.{◌≡◌, ℕ, ◌+◌, ◌-◌, ◌*◌, ◌^◌, min, max, List, Option, Some, None, fold, length}
use Rattle.topology.specs.Network.{Network}
use Rattle.node_recorder.specs.Turns.{network_mark}
use Rattle.record_gathering.specs.flight_records.declared.entry.Entry.{Entry}
use Rattle.flight_recorder.specs.declared.recorder.Side.{Side}
use Rattle.gather_command.specs.declared.fault.Flaw.{Flaw}
use Rattle.gather_command.specs.declared.fault.FlawKind.{FlawKind}
use Rattle.gather_command.specs.View.{NodeRecordView}
use Rattle.gather_command.specs.Records.{AreRecordsOf, IsToCome}

-- this many seconds after an instant, and before one, in microseconds
abbrev pub after_first : ℕ → ℕ → ℕ
after_first first seconds = min (first + seconds * 1000000) (2 ^ 64 - 1)

abbrev pub before_last : ℕ → ℕ → ℕ
before_last last seconds = last - seconds * 1000000

-- the earlier of an instant and that of an entry; the given instant if there is no entry
abbrev pub earlier_of : ℕ → Option Entry → ℕ
earlier_of least None = least
earlier_of least (Some e) = min least e.instant

-- the instant of the earliest of these entries, any of which may be none; the greatest one if all
-- are none
abbrev pub least_of : List (Option Entry) → ℕ
least_of heads = fold earlier_of (2 ^ 64 - 1) heads

-- the latest of an instant and those of a record's entries; the latest instant of all records
abbrev pub later_of : ℕ → List Entry → ℕ
later_of greatest es = fold (λ t e. max t e.instant) greatest es

abbrev pub greatest_in : List (List Entry) → ℕ
greatest_in entries = fold later_of 0 entries

-- a record, read to its end, gave entries; `latest` is the latest of their instants and a given one
abbrev pub IsReadThrough : Type 0 → NodeRecordView → ℕ → ℕ → Type 0
IsReadThrough Fails old greatest latest =
    (es : List Entry) × (flaws : List Flaw) × IsToCome Fails old es flaws × (latest ≡ later_of greatest es)

-- the files of all nodes' records were read, each to its end or to its flaw, and this is the
-- instant of the latest entry
pub record IsLatest (Reads : ℕ → Side → List Entry → Option FlawKind → Type 0) (net : Network) (latest : ℕ) : Type 0 where
  pub entries : List (List Entry)
  pub flaws : List Flaw
  pub records : AreRecordsOf Reads (network_mark net) 0 entries flaws
  pub all : length entries ≡ net.nodes
  pub is_greatest : latest ≡ greatest_in entries
