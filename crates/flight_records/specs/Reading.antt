-- What bytes are read as: the entry at their front, or why there is none.
use Rattle.std.specs.Prelude.{◌≡◌, ℕ, ◌+◌, ◌-◌, ◌^◌, ◌%◌, ◌==◌, nat_lt}
use Rattle.std.specs.Prelude.{if◌then◌else◌, List, [], ◌∷◌, length}
use Rattle.std.specs.Prelude.{take, slice_index, Option, Some, None, Result, Ok, Err}
use Rattle.std.specs.Str.{bytes_eq}
use Rattle.topology.specs.declared.frame.Frame.{Frame}
use Rattle.topology.specs.declared.frame.Payload.{Payload}
use Rattle.flight_records.specs.declared.entry.Entry.{Entry}
use Rattle.flight_records.specs.declared.entry.Noted.{Noted}
use Rattle.flight_records.specs.declared.entry.Noted.TheVariants as noted
use Rattle.flight_records.specs.declared.entry.StatePart.{StatePart}
use Rattle.flight_records.specs.declared.entry.StatePart.TheVariants.{Start, Own, Port, Waits, Loan, Whole}
use Rattle.flight_records.specs.declared.entry.Deed.{Deed}
use Rattle.flight_records.specs.declared.entry.Deed.TheVariants.{Ticks, Takes, TakesAgain, Sends}
use Rattle.flight_records.specs.declared.entry.Deed.TheVariants.{SendsAgain, Asks, Leaves, Joins}
use Rattle.flight_records.specs.declared.entry.Deed.TheVariants.{Parts, Connects, Disconnects}
use Rattle.leb128.specs.declared.unread.Unread.{Unread}
use Rattle.leb128.specs.declared.unread.Unread.TheVariants.{Short, Invalid}
use Rattle.leb128.specs.Reading.{◌>>=◌, number_at, numbers_at}
use Rattle.flight_records.specs.Numbers.{fields}
use Rattle.flight_records.specs.Spelling.{check}

-- the low sixteen bits of a number
abbrev pub narrow : ℕ → ℕ
narrow n = n % 65536

-- the low sixteen bits of the number at a place of some fields; 0 past their end
abbrev pub field : List ℕ → ℕ → ℕ
field fs i = narrow (slice_index fs i)

-- the optional number that a number stands for
abbrev pub optional_of : ℕ → Option ℕ
optional_of n = if n == 0 then None else Some (narrow (n - 1))

-- three numbers from a place on, as a payload
abbrev pub payload_in : List ℕ → ℕ → Payload
payload_in fs i = record {
  distance = field fs i;
  parent = optional_of (slice_index fs (i + 1));
  ring = field fs (i + 2);
}

-- five numbers, after that of a neighbour, as a frame
abbrev pub frame_in : List ℕ → Frame
frame_in fs = record { seq = field fs 1; ack = field fs 2; payload = payload_in fs 3 }

-- the only part of a state that fields of a kind may be
abbrev pub part_in : ℕ → List ℕ → Option StatePart
part_in k fs =
    if k == 1 then Some (Start (slice_index fs 0 % 4294967296) (field fs 1))
    else if k == 2 then Some (Own (field fs 0) (optional_of (slice_index fs 1)))
    else if k == 3 then Some (Port (field fs 0) (field fs 1) (field fs 2) (payload_in fs 3) (payload_in fs 6) (field fs 9))
    else if k == 4 then Some (Waits (field fs 0))
    else if k == 5 then Some (Loan (optional_of (slice_index fs 0)) (field fs 1) (slice_index fs 2 == 1))
    else if k == 6 then Some Whole
    else None

-- the only deed that fields of a kind may be
abbrev pub deed_in : ℕ → List ℕ → Option Deed
deed_in k fs =
    if k == 7 then Some Ticks
    else if k == 8 then Some (Takes (field fs 0) (frame_in fs))
    else if k == 9 then Some (TakesAgain (field fs 0))
    else if k == 10 then Some (Sends (field fs 0) (frame_in fs))
    else if k == 11 then Some (SendsAgain (field fs 0))
    else if k == 12 then Some (Asks (field fs 0))
    else if k == 13 then Some (Leaves (field fs 0))
    else if k == 14 then Some (Joins (field fs 0))
    else if k == 15 then Some (Parts (field fs 0))
    else if k == 16 then Some (Connects (field fs 0))
    else if k == 17 then Some (Disconnects (field fs 0))
    else None

-- the only thing that may be noted: that part or that deed
abbrev pub candidate_of : Option StatePart → Option Deed → Option Noted
candidate_of (Some part) deed = Some (noted.State part)
candidate_of None (Some deed) = Some (noted.Deed deed)
candidate_of None None = None

unfoldable pub candidate : ℕ → List ℕ → Option Noted
candidate k fs = candidate_of (part_in k fs) (deed_in k fs)

-- that, if its fields are these very ones
abbrev pub with_fields : List ℕ → Option Noted → Option Noted
with_fields fs None = None
with_fields fs (Some n) = if bytes_eq (fields n) fs then Some n else None

-- what numbers note, after an entry of the instant `last`
abbrev pub entry_with : ℕ → Option Noted → Result Entry Unread
entry_with instant None = Err Invalid
entry_with instant (Some n) =
    if nat_lt instant (2 ^ 64) then Ok (record { instant = instant; noted = n }) else Err Invalid

unfoldable pub entry_of : ℕ → ℕ → List ℕ → Result Entry Unread
entry_of last k [] = Err Invalid
entry_of last k (passed ∷ fs) = entry_with (last + passed) (with_fields fs (candidate k fs))

-- how many numbers follow a kind: the microseconds since the entry before, and the fields
unfoldable pub count_of : ℕ → Result ℕ Unread
count_of k =
    if k == 1 then Ok 3
    else if k == 2 then Ok 3
    else if k == 3 then Ok 11
    else if k == 4 then Ok 2
    else if k == 5 then Ok 4
    else if k == 6 then Ok 1
    else if k == 7 then Ok 1
    else if k == 8 then Ok 7
    else if k == 10 then Ok 7
    else if k == 0 then Err Invalid
    else if nat_lt k 18 then Ok 2
    else Err Invalid

-- the entry whose numbers were read, if the check that stands after them matches
unfoldable pub checked : ℕ → ℕ → List ℕ → List ℕ → List ℕ → Result (Entry × List ℕ) Unread
checked last k ns bytes [] = Err Short
checked last k ns bytes (c ∷ rest) =
    if c == check (take (length bytes - length (c ∷ rest)) bytes) then (entry_of last k ns >>= λ e. Ok (e, rest))
    else Err Invalid

-- the entry at the front, after an entry of the instant `last`, and the bytes after it
unfoldable pub entry_at : ℕ → List ℕ → Result (Entry × List ℕ) Unread
entry_at last bytes = do
  k ← number_at bytes
  count ← count_of k.0
  ns ← numbers_at count k.1
  checked last k.0 ns.0 bytes ns.1

-- a reader is after the entry that it read, and where it was if it read none
abbrev pub Stands : {X : Type 0} → (X → Entry) → Result X Unread → ℕ → ℕ → Type 0
Stands entry (Ok x) old new = new ≡ (entry x).instant
Stands entry (Err e) old new = new ≡ old
