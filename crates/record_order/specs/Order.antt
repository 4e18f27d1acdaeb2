-- Which steps are ready, and which of them comes next.
use Rattle.std.specs.Prelude.{◌≡◌, ℕ, ◌<◌, ◌≤◌, nat_le, Bool, true, if◌then◌else◌, List, slice_index, slice_index_or, Option, None, Some}
use Rattle.record_order.specs.declared.ready.Need.{Need}
use Rattle.record_order.specs.declared.ready.Step.{Step}

-- as many steps of another record were read as a step needs
abbrev pub is_met : List ℕ → Option Need → Bool
is_met read None = true
is_met read (Some need) = nat_le need.count (slice_index read need.node)

-- the instant of a record's next step, if that is ready
abbrev pub ready_instant : List ℕ → Option Step → Option ℕ
ready_instant read None = None
ready_instant read (Some step) = if is_met read step.need then Some step.instant else None

-- the earlier of two steps, of which each may be none; of two of the same instant, the first
abbrev pub earlier : Option (ℕ × ℕ) → ℕ → Option ℕ → Option (ℕ × ℕ)
earlier first node None = first
earlier None node (Some instant) = Some (node, instant)
earlier (Some first) node (Some instant) =
    if nat_le first.1 instant then Some first else Some (node, instant)

-- the node of the step that was found
abbrev pub node_of : Option (ℕ × ℕ) → Option ℕ
node_of None = None
node_of (Some first) = Some first.0

-- the next step of a record
abbrev pub head_of : List (Option Step) → ℕ → Option Step
head_of heads v = slice_index_or heads v None

-- Of the first n records, this is the node whose next step is the earliest that is ready; if several
-- have this instant, the first of these nodes. There is none if no step is ready.
abbrev pub IsEarliest : List ℕ → List (Option Step) → ℕ → Option ℕ → Type 0
IsEarliest read heads n None = (u : ℕ) → u < n → ready_instant read (head_of heads u) ≡ None
IsEarliest read heads n (Some v) =
    (v < n) × (least : ℕ) × (ready_instant read (head_of heads v) ≡ Some least)
    × ((u instant : ℕ) → u < n → ready_instant read (head_of heads u) ≡ Some instant → least ≤ instant)
    × ((u : ℕ) → u < v → ready_instant read (head_of heads u) ≡ Some least → ⊥)
