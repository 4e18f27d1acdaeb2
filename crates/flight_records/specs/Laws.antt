-- The laws of records.
use Rattle.std.specs.Prelude.{◌≡◌, ℕ, ◌^◌, ◌<◌, ◌≤◌, List, [], ◌∷◌, ◌++◌, IfSome, Some, Result, Ok, Err}
use Rattle.std.specs.List.{AllByRecursion}
use Rattle.topology.specs.declared.frame.Frame.{Frame}
use Rattle.topology.specs.declared.frame.Payload.{Payload}
use Rattle.leb128.specs.declared.unread.Unread.{Unread}
use Rattle.leb128.specs.declared.unread.Unread.TheVariants.{Short, Invalid}
use Rattle.leb128.specs.Laws.{AreBytes}
use Rattle.leb128.specs.Pieces.{IsKept, IsOfAtMost}
use Rattle.flight_records.specs.declared.entry.Entry.{Entry}
use Rattle.flight_records.specs.declared.entry.Noted.{Noted}
use Rattle.flight_records.specs.declared.entry.Noted.TheVariants as noted
use Rattle.flight_records.specs.declared.entry.StatePart.{StatePart}
use Rattle.flight_records.specs.declared.entry.StatePart.TheVariants.{Start, Own, Port, Waits, Loan, Whole}
use Rattle.flight_records.specs.declared.entry.Deed.{Deed}
use Rattle.flight_records.specs.declared.entry.Deed.TheVariants.{Ticks, Takes, TakesAgain, Sends}
use Rattle.flight_records.specs.declared.entry.Deed.TheVariants.{SendsAgain, Asks, Leaves, Joins}
use Rattle.flight_records.specs.declared.entry.Deed.TheVariants.{Parts, Connects, Disconnects}
use Rattle.flight_records.specs.Spelling.{spelling, record_of}
use Rattle.flight_records.specs.Reading.{entry_at}
use Rattle.flight_records.specs.Frames.{FramesView}
use Rattle.flight_records.specs.Again.{frames_after, shortened, lengthened}

-- a number of sixteen bits
abbrev pub IsNarrow : ℕ → Type 0
IsNarrow n = n < 65536

-- the numbers of a payload, of a frame
abbrev pub IsPayload : Payload → Type 0
IsPayload p = IsNarrow p.distance × IfSome p.parent IsNarrow × IsNarrow p.ring

abbrev pub IsFrame : Frame → Type 0
IsFrame f = IsNarrow f.seq × IsNarrow f.ack × IsPayload f.payload

-- a part of a state as the code has it: its numbers have sixteen bits, and the checksum 32
abbrev pub IsPart : StatePart → Type 0
IsPart (Start network node) = (network < 2 ^ 32) × IsNarrow node
IsPart (Own distance parent) = IsNarrow distance × IfSome parent IsNarrow
IsPart (Port neighbour seq last staged copy value) =
    IsNarrow neighbour × IsNarrow seq × IsNarrow last × IsPayload staged × IsPayload copy × IsNarrow value
IsPart (Waits ticket) = IsNarrow ticket
IsPart (Loan lent left served) = IfSome lent IsNarrow × IsNarrow left
IsPart Whole = Unit {0}

-- a deed as the code has it
abbrev pub IsDeed : Deed → Type 0
IsDeed Ticks = Unit {0}
IsDeed (Takes from frame) = IsNarrow from × IsFrame frame
IsDeed (TakesAgain from) = IsNarrow from
IsDeed (Sends to frame) = IsNarrow to × IsFrame frame
IsDeed (SendsAgain to) = IsNarrow to
IsDeed (Asks ticket) = IsNarrow ticket
IsDeed (Leaves ticket) = IsNarrow ticket
IsDeed (Joins neighbour) = IsNarrow neighbour
IsDeed (Parts neighbour) = IsNarrow neighbour
IsDeed (Connects neighbour) = IsNarrow neighbour
IsDeed (Disconnects neighbour) = IsNarrow neighbour

abbrev pub IsNoted : Noted → Type 0
IsNoted (noted.State part) = IsPart part
IsNoted (noted.Deed deed) = IsDeed deed

-- an entry that may stand after one of the instant `last`: it is no earlier
pub record Follows (last : ℕ) (e : Entry) : Type 0 where
  pub later : last ≤ e.instant
  pub wide : e.instant < 2 ^ 64
  pub noted : IsNoted e.noted

-- entries that may stand one after the other
abbrev pub AreInOrder : ℕ → List Entry → Type 0
AreInOrder last [] = Unit {0}
AreInOrder last (e ∷ es) = Follows last e × AreInOrder e.instant es

-- the instant after entries
abbrev pub instant_after : ℕ → List Entry → ℕ
instant_after last [] = last
instant_after last (e ∷ es) = instant_after e.instant es

-- a reader that goes entry by entry reads these, and then these bytes are left
abbrev pub AreRead : ℕ → List ℕ → List Entry → List ℕ → Type 0
AreRead last bytes [] left = bytes ≡ left
AreRead last bytes (e ∷ es) left =
    (rest : List ℕ) × (entry_at last bytes ≡ Ok (e, rest)) × AreRead e.instant rest es left

-- entries that were written are read back, whatever follows
abbrev pub WrittenIsRead : Type 0
WrittenIsRead =
    (last : ℕ) (es : List Entry) (left : List ℕ) → AreInOrder last es
    → AreRead last (record_of last es ++ left) es left

-- the bytes are less than the whole spelling of the next of these entries; there are none if there
-- is no next entry
abbrev pub AreLess : ℕ → List ℕ → List Entry → Type 0
AreLess last bytes [] = bytes ≡ []
AreLess last bytes (e ∷ es) =
    (b : ℕ) × (back : List ℕ) × (spelling last e ≡ bytes ++ b ∷ back)

-- In front of a cut there are whole entries and then less than the next one; a reader of these
-- bytes reads those entries, and then is short of bytes.
pub record IsCut (last : ℕ) (es : List Entry) (front : List ℕ) : Type 0 where
  pub whole : List Entry
  pub beyond : List Entry
  pub torn : List ℕ
  pub entries : es ≡ whole ++ beyond
  pub bytes : front ≡ record_of last whole ++ torn
  pub less : AreLess (instant_after last whole) torn beyond
  pub read : AreRead last front whole torn
  pub then_short : entry_at (instant_after last whole) torn ≡ Err Short

abbrev pub CutIsRead : Type 0
CutIsRead =
    (last : ℕ) (es : List Entry) (front back : List ℕ) → AreInOrder last es
    → record_of last es ≡ front ++ back → IsCut last es front

-- what is read stands there as it is written, and is no earlier than the entry before it
pub record IsWritten (last : ℕ) (bytes : List ℕ) (e : Entry) (rest : List ℕ) : Type 0 where
  pub parts : bytes ≡ spelling last e ++ rest
  pub later : last ≤ e.instant
  pub wide : e.instant < 2 ^ 64
  pub bytes_left : AreBytes rest

abbrev pub WhatIsReadIsWritten : Type 0
WhatIsReadIsWritten =
    (last : ℕ) (bytes : List ℕ) (e : Entry) (rest : List ℕ) → AreBytes bytes
    → entry_at last bytes ≡ Ok (e, rest) → IsWritten last bytes e rest

-- what is read of a beginning of bytes that begin with this entry: the entry, or that the bytes are
-- short; if it is the entry, what is left is a beginning of what is left of all the bytes
abbrev pub IsBegun : List ℕ → Entry → List ℕ → Result (Entry × List ℕ) Unread → Type 0
IsBegun back e rest (Ok x) = (x.0 ≡ e) × (rest ≡ x.1 ++ back)
IsBegun back e rest (Err Short) = Unit {0}
IsBegun back e rest (Err Invalid) = ⊥

-- What is read of a piece of a record stands if more bytes follow; it takes at most 121 bytes, and only
-- fewer are short; and of a beginning of an entry nothing but that entry is read.
pub record PiecesAreRead : Type 0 where
  pub kept : (last : ℕ) (bytes more : List ℕ)
      → IsKept more (entry_at last bytes) (entry_at last (bytes ++ more))
  pub most : (last : ℕ) (bytes : List ℕ) → IsOfAtMost 121 bytes (entry_at last bytes)
  pub begun : (last : ℕ) (front back : List ℕ) (e : Entry) (rest : List ℕ)
      → entry_at last (front ++ back) ≡ Ok (e, rest) → IsBegun back e rest (entry_at last front)

-- an entry that is written at the end of a record makes a record of one entry more
abbrev pub RecordsGrow : Type 0
RecordsGrow =
    (last : ℕ) (es : List Entry) (e : Entry) → AreInOrder last es
    → Follows (instant_after last es) e
    → AreInOrder last (es ++ e ∷ [])
    × (instant_after last (es ++ e ∷ []) ≡ e.instant)
    × (record_of last (es ++ e ∷ []) ≡ record_of last es ++ spelling (instant_after last es) e)

-- what is noted names its frame, if it has one
abbrev pub IsLongDeed : Deed → Type 0
IsLongDeed Ticks = Unit {0}
IsLongDeed (Takes from frame) = Unit {0}
IsLongDeed (TakesAgain from) = ⊥
IsLongDeed (Sends to frame) = Unit {0}
IsLongDeed (SendsAgain to) = ⊥
IsLongDeed (Asks ticket) = Unit {0}
IsLongDeed (Leaves ticket) = Unit {0}
IsLongDeed (Joins neighbour) = Unit {0}
IsLongDeed (Parts neighbour) = Unit {0}
IsLongDeed (Connects neighbour) = Unit {0}
IsLongDeed (Disconnects neighbour) = Unit {0}

abbrev pub IsLong : Noted → Type 0
IsLong (noted.State part) = Unit {0}
IsLong (noted.Deed deed) = IsLongDeed deed

-- what is remembered after entries
abbrev pub frames_after_all : FramesView → List Entry → FramesView
frames_after_all v [] = v
frames_after_all v (e ∷ es) = frames_after_all (frames_after v e.noted) es

-- an entry, and entries, as they stand in a record: each frame that was the last one of its link is
-- in its short form
abbrev pub short_entry : FramesView → Entry → Entry
short_entry v e = record { instant = e.instant; noted = shortened v e.noted }

abbrev pub short_entries : FramesView → List Entry → List Entry
short_entries v [] = []
short_entries v (e ∷ es) = short_entry v e ∷ short_entries (frames_after v e.noted) es

-- a reader of the first entries, one after the other, finds that they stood for the second ones
abbrev pub StandFor : FramesView → List Entry → List Entry → Type 0
StandFor v [] [] = Unit {0}
StandFor v [] (e ∷ es) = ⊥
StandFor v (s ∷ ss) [] = ⊥
StandFor v (s ∷ ss) (e ∷ es) =
    (lengthened v s.noted ≡ Some e.noted) × (s.instant ≡ e.instant) × StandFor (frames_after v e.noted) ss es

-- The short forms of entries that name their frames stand for those very entries. Short forms may
-- stand one after the other if the entries may, and grow entry by entry.
pub record ShortFormsStand : Type 0 where
  pub stand : (v : FramesView) (es : List Entry) → AllByRecursion (λ e. IsLong e.noted) es
      → StandFor v (short_entries v es) es
  pub order : (v : FramesView) (last : ℕ) (es : List Entry) → AreInOrder last es
      → AreInOrder last (short_entries v es)
      × (instant_after last (short_entries v es) ≡ instant_after last es)
  pub grow : (v : FramesView) (es : List Entry) (e : Entry)
      → (short_entries v (es ++ e ∷ [])
      ≡ short_entries v es ++ short_entry (frames_after_all v es) e ∷ [])
      × (frames_after_all v (es ++ e ∷ []) ≡ frames_after (frames_after_all v es) e.noted)
