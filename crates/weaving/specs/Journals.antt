-- A list of journals, and what is unread of them.
use Rattle.std.specs.Prelude.{◌≡◌, ◌+◌, ℕ, ◌<◌, Option, Some, None, if◌then◌else◌, nat_le}
use Rattle.std.specs.Prelude.{List, [], ◌∷◌, map, drop, length, slice_index_or}
use Rattle.weaving.specs.declared.journal.JournalEntry.{JournalEntry}
use Rattle.weaving.specs.declared.journal.Journal.{Journal}
use Rattle.weaving.specs.Woven.{IsNoLater}

-- the entries of each journal
abbrev pub entries_in : {A : Type 0} → List (Journal A) → List (List JournalEntry)
entries_in journals = map (λ j. j.entries.items) journals

-- the journal of v; it is empty if v is no node
abbrev pub journal_of : List (List JournalEntry) → ℕ → List JournalEntry
journal_of journals v = slice_index_or journals v []

-- how many entries there are
abbrev pub entry_count : List (List JournalEntry) → ℕ
entry_count [] = 0
entry_count (j ∷ js) = length j + entry_count js

-- each journal without the entries that were read
abbrev pub unread : List (List JournalEntry) → List ℕ → List (List JournalEntry)
unread [] read = []
unread (j ∷ js) [] = j ∷ js
unread (j ∷ js) (k ∷ ks) = drop k j ∷ unread js ks

-- the earlier of two entries by stamp; if the stamps are equal, the first
abbrev pub earlier : Option (ℕ × JournalEntry) → ℕ → JournalEntry → Option (ℕ × JournalEntry)
earlier None n e = Some (n, e)
earlier (Some first) n e = if nat_le first.1.stamp e.stamp then Some first else Some (n, e)

-- the earliest entry, once the next entry of one more node is seen
abbrev pub with_next : Option (ℕ × JournalEntry) → ℕ → List JournalEntry → Option (ℕ × JournalEntry)
with_next first n [] = first
with_next first n (e ∷ es) = earlier first n e

-- The earliest entry of the first n journals, with its node; none if they are all empty.
abbrev pub IsFirst : List (List JournalEntry) → ℕ → Option (ℕ × JournalEntry) → Type 0
IsFirst journals n None = (u : ℕ) → u < n → journal_of journals u ≡ []
IsFirst journals n (Some first) =
    (later : List JournalEntry) × (journal_of journals first.0 ≡ first.1 ∷ later) × (first.0 < n)
    × ((u : ℕ) (e : JournalEntry) (es : List JournalEntry) → u < n → journal_of journals u ≡ e ∷ es
    → IsNoLater (record { node = first.0; entry = first.1 }) (record { node = u; entry = e }))
