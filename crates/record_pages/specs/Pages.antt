-- A record of which a page is at hand.
use Rattle.std.specs.Prelude.{◌≡◌, ◌≢◌, ℕ, ◌<◌, ◌≤◌, Bool, true, false, List, [], ◌++◌, length, Option, Some, None, option_map, Result, Ok, Err, ◌⊎◌}
use Rattle.byte_streams.specs.Streams.{Rose}
use Rattle.flight_records.specs.declared.entry.Entry.{Entry}
use Rattle.flight_records.specs.leb128.declared.unread.Unread.TheVariants.{Short, Invalid as NoEntry}
use Rattle.flight_records.specs.Reading.{entry_at}
use Rattle.record_pages.specs.declared.stop.Stop.{Stop}
use Rattle.record_pages.specs.declared.stop.Stop.TheVariants.{End, Torn, Invalid, Failed}

-- the bytes that are still to be read: those at hand, and those that the source has still to give, if it
-- says so
abbrev pub to_come : Option (List ℕ) → List ℕ → Option (List ℕ)
to_come rest held = option_map (λ more. held ++ more) rest

-- a source has no more bytes to give, if it says so
abbrev pub has_ended : Option (List ℕ) → Type 0
has_ended None = Unit {0}
has_ended (Some more) = more ≡ []

-- an entry is at hand, or the source has ended
abbrev pub IsAtHand : Option (List ℕ) → List ℕ → Type 0
IsAtHand rest held = (121 ≤ length held) ⊎ has_ended rest

-- a source was asked for more: if true, an entry is at hand, or the source has ended; if false, there
-- is more at hand than before
abbrev pub IsAsked : Bool → Option (List ℕ) → List ℕ → List ℕ → Type 0
IsAsked true rest old new = IsAtHand rest new
IsAsked false rest old new = length old < length new

-- what is read from the bytes at hand, after an entry of the instant `last`; what is left of them; and
-- the instant of the entry that was read last
abbrev pub IsReadOf : ℕ → Result Entry Stop → List ℕ → List ℕ → ℕ → Type 0
IsReadOf last (Ok e) held left now = (entry_at last held ≡ Ok (e, left)) × (now ≡ e.instant)
IsReadOf last (Err End) held left now = (held ≡ []) × (left ≡ held) × (now ≡ last)
IsReadOf last (Err Torn) held left now =
    (entry_at last held ≡ Err Short) × (held ≢ []) × (left ≡ held) × (now ≡ last)
IsReadOf last (Err Invalid) held left now =
    (entry_at last held ≡ Err NoEntry) × (left ≡ held) × (now ≡ last)
IsReadOf last (Err Failed) held left now = ⊥

-- The same for all bytes that are still to be read, before and after. Nothing is said about the bytes
-- of a source that does not say them.
abbrev pub ReadsNext : ℕ → Result Entry Stop → Option (List ℕ) → Option (List ℕ) → ℕ → Type 0
ReadsNext last (Ok e) None after now = (after ≡ None) × (now ≡ e.instant)
ReadsNext last (Ok e) (Some bytes) after now =
    (left : List ℕ) × (after ≡ Some left) × (entry_at last bytes ≡ Ok (e, left)) × (now ≡ e.instant)
ReadsNext last (Err stop) None after now = (after ≡ None) × (now ≡ last)
ReadsNext last (Err End) (Some bytes) after now = (after ≡ Some bytes) × (now ≡ last) × (bytes ≡ [])
ReadsNext last (Err Torn) (Some bytes) after now =
    (after ≡ Some bytes) × (now ≡ last) × (bytes ≢ []) × (entry_at last bytes ≡ Err Short)
ReadsNext last (Err Invalid) (Some bytes) after now =
    (after ≡ Some bytes) × (now ≡ last) × (entry_at last bytes ≡ Err NoEntry)
ReadsNext last (Err Failed) (Some bytes) after now = (after ≡ Some bytes) × (now ≡ last)

-- a reader reports that its source failed only if the source's count of failures rose
abbrev pub FailsAsSource : Result Entry Stop → ℕ → ℕ → Type 0
FailsAsSource (Ok e) failures more = failures ≤ more
FailsAsSource (Err End) failures more = failures ≤ more
FailsAsSource (Err Torn) failures more = failures ≤ more
FailsAsSource (Err Invalid) failures more = failures ≤ more
FailsAsSource (Err Failed) failures more = (failures ≤ more) × Rose failures more
