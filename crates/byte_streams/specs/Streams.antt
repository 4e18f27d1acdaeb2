-- What the answers of sources and sinks say about their bytes and their failures.
use Rattle.std.specs.Prelude.{◌≡◌, ℕ, ◌-◌, ◌^◌, ◌<◌, ◌≤◌, List, [], ◌++◌, Option, Some, None, Result, Ok, Err, option_map, take, drop, length, ◌⊎◌}
use Rattle.byte_streams.specs.declared.streams.Failed.{Failed}

-- a count of failures rose, or is at the greatest value of a u64
abbrev pub Rose : ℕ → ℕ → Type 0
Rose before after = (before < after) ⊎ (2 ^ 64 - 1 ≤ after)

-- The source put its next bytes at the front of the buffer, as many as it says; none only if it has
-- no more, or if there is no room for any.
abbrev pub GivesNext : ℕ → List ℕ → Option (List ℕ) → List ℕ → Type 0
GivesNext count rest after buffer =
    (count ≤ length rest) × (take count buffer ≡ take count rest) × (after ≡ Some (drop count rest))
    × (count ≡ 0 → 0 < length buffer → rest ≡ [])

-- what a read says about the bytes that the source has still to give, before it and after it;
-- nothing for a source that does not say them
abbrev pub Gives : ℕ → Option (List ℕ) → Option (List ℕ) → List ℕ → Type 0
Gives count None after buffer = after ≡ None
Gives count (Some rest) after buffer = GivesNext count rest after buffer

-- the first `count` bytes of a text were read, and a source has the others still to give
abbrev pub HasRead : ℕ → List ℕ → Option (List ℕ) → Type 0
HasRead count bytes rest = (count ≤ length bytes) × (rest ≡ Some (drop count bytes))

-- a read gives at most as many bytes as there is room for, or fails; a failed one gives none, and
-- is counted
abbrev pub Reads : Result ℕ Failed → Option (List ℕ) → Option (List ℕ) → List ℕ → ℕ → ℕ → Type 0
Reads (Ok count) before after buffer failures more =
    (count ≤ length buffer) × Gives count before after buffer × (failures ≤ more)
Reads (Err _) before after buffer failures more =
    (after ≡ before) × (failures ≤ more) × Rose failures more

-- the sink took these bytes after those before; nothing is said about a sink that does not say what
-- it took
abbrev pub Takes : List ℕ → Option (List ℕ) → Option (List ℕ) → Type 0
Takes bytes before after = after ≡ option_map (λ taken. taken ++ bytes) before

-- a write takes the first bytes, at least one if there is any, or fails; a failed one takes
-- none, and is counted
abbrev pub Writes : Result ℕ Failed → List ℕ → Option (List ℕ) → Option (List ℕ) → ℕ → ℕ → Type 0
Writes (Ok count) bytes before after failures more =
    (count ≤ length bytes) × (0 < length bytes → 0 < count) × Takes (take count bytes) before after
    × (failures ≤ more)
Writes (Err _) bytes before after failures more =
    (after ≡ before) × (failures ≤ more) × Rose failures more

-- The bytes in front were taken, and those after them were not.
pub record TakesABeginning (bytes : List ℕ) (before after : Option (List ℕ)) : Type 0 where
  pub front : List ℕ
  pub back : List ℕ
  pub parts : bytes ≡ front ++ back
  pub taken : Takes front before after

-- all the bytes were written one after the other; or a beginning of them, and then the sink failed
abbrev pub WritesAll : {E : Type 0} → Result (Unit {0}) E → List ℕ → Option (List ℕ)
    → Option (List ℕ) → ℕ → ℕ → Type 0
WritesAll (Ok _) bytes before after failures more = Takes bytes before after × (failures ≤ more)
WritesAll (Err _) bytes before after failures more =
    TakesABeginning bytes before after × (failures ≤ more) × Rose failures more

-- a failure is returned only if the count of failures rose
abbrev pub CountsFailures : {T E : Type 0} → Result T E → ℕ → ℕ → Type 0
CountsFailures (Ok _) failures more = failures ≤ more
CountsFailures (Err _) failures more = (failures ≤ more) × Rose failures more
