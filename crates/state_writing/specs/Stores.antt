-- What the answers of a store say about what is stored and about its failures.
use Rattle.std.specs.Prelude.{◌≡◌, ℕ, ◌≤◌, List, take, Option, None, Some, option_map, Result, Ok, Err, ⊤}
use Rattle.byte_streams.specs.Streams.{Rose}
use Rattle.state_writing.specs.declared.store.StoreFault.{StoreFault}
use Rattle.state_writing.specs.declared.store.StoreFault.TheVariants as store

-- nothing is stored, or the store does not say
abbrev pub MayBeAbsent : Option (Option (List ℕ)) → Type 0
MayBeAbsent None = ⊤
MayBeAbsent (Some None) = ⊤
MayBeAbsent (Some (Some bytes)) = ⊥

-- these are the first 1277 bytes that are stored; nothing is said about a store that does not say
-- what it stores
abbrev pub AreStored : List ℕ → Option (Option (List ℕ)) → Type 0
AreStored given None = ⊤
AreStored given (Some None) = ⊥
AreStored given (Some (Some bytes)) = given ≡ take 1277 bytes

-- a load gives the first bytes that are stored, and changes none; Absent comes only if nothing is
-- stored or the store does not say, and Device only if the count of failures rose
abbrev pub Loads : Result ℕ StoreFault → Option (Option (List ℕ)) → Option (Option (List ℕ)) → List ℕ → ℕ → ℕ → Type 0
Loads (Ok count) before after buffer failures more =
    (count ≤ 1277) × AreStored (take count buffer) before × (after ≡ before) × (failures ≤ more)
Loads (Err store.Absent) before after buffer failures more = MayBeAbsent before × (after ≡ before) × (failures ≤ more)
Loads (Err store.Device) before after buffer failures more = (after ≡ before) × (failures ≤ more) × Rose failures more

-- a save stores these bytes, or fails, and then the count of failures rose
abbrev pub Saves : Result (Unit {0}) StoreFault → List ℕ → Option (Option (List ℕ)) → Option (Option (List ℕ)) → ℕ → ℕ → Type 0
Saves (Ok _) bytes before after failures more = (after ≡ option_map (λ _. Some bytes) before) × (failures ≤ more)
Saves (Err store.Absent) bytes before after failures more = ⊥
Saves (Err store.Device) bytes before after failures more = (failures ≤ more) × Rose failures more
