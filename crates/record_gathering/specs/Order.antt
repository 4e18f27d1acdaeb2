-- Which of the next entries of all records comes next.
use Rattle.std.specs.Prelude.{◌≡◌, ℕ, ◌<◌, ◌==◌, ◌&&◌, ◌||◌, nat_lt, nat_le, Bool, true, false, if◌then◌else◌, List, slice_index_or, Option, None, Some}
use Rattle.flight_records.specs.declared.entry.Entry.{Entry}
use Rattle.flight_records.specs.declared.entry.Noted.{Noted}
use Rattle.flight_records.specs.declared.entry.Noted.TheVariants as noted
use Rattle.flight_records.specs.declared.entry.Deed.{Deed}
use Rattle.flight_records.specs.declared.entry.Deed.TheVariants as deed
use Rattle.configuration.specs.run_model.World.{World}
use Rattle.record_gathering.specs.Entries.{is_ready}

-- the entry is a frame that a link accepted
abbrev pub is_sent_deed : Deed → Bool
is_sent_deed (deed.Sends to frame) = true
is_sent_deed _ = false

abbrev pub is_sent : Noted → Bool
is_sent (noted.State p) = false
is_sent (noted.Deed d) = is_sent_deed d

-- Entries that are ready come first, then frames that were sent on links that are full, and last frames
-- that were taken and are not under way.
abbrev pub rank : World → ℕ → Entry → ℕ
rank w v e = if is_ready w v e.noted then 0 else if is_sent e.noted then 1 else 2

-- a rank and an instant are no later than another rank and instant
abbrev pub is_no_later : ℕ → ℕ → ℕ → ℕ → Bool
is_no_later rank instant other later =
    nat_lt rank other || (rank == other && nat_le instant later)

-- the next entry of a record
abbrev pub head_of : List (Option Entry) → ℕ → Option Entry
head_of heads v = slice_index_or heads v None

-- Among the next entries of the first n records, that of the record that is named has the least
-- rank, and is the earliest of that rank; none is named if all are read to their ends.
abbrev pub IsNext : World → List (Option Entry) → ℕ → Option ℕ → Type 0
IsNext w heads n None = (u : ℕ) → u < n → head_of heads u ≡ None
IsNext w heads n (Some v) =
    (v < n) × (e : Entry) × (head_of heads v ≡ Some e)
    × ((u : ℕ) (other : Entry) → u < n → head_of heads u ≡ Some other
    → is_no_later (rank w v e) e.instant (rank w u other) other.instant ≡ true)
