-- What may follow in a ring of which a part has been read.
use Rattle.std.specs.Prelude.{◌≡◌, ℕ, List}
use Rattle.std.specs.List.{AllByRecursion}
use Rattle.k_state.specs.Machine.{root_moved}
use Rattle.k_state.specs.Ring.{IsFrontThen}
use Rattle.layers.specs.declared.ring_reading.Part.{Part}
use Rattle.layers.specs.declared.ring_reading.Part.TheVariants.{Front, Rest, Broken}
use Rattle.layers.specs.declared.ring_reading.RingReading.{RingReading}

-- The values may follow in this part of a good ring. In front: values that equal the head, and then
-- values that are one less. After those: only values that are one less. If the ring is broken: no
-- values at all.
abbrev pub MayFollowIn : Part → ℕ → ℕ → List ℕ → Type 0
MayFollowIn Front q head values = IsFrontThen (λ x. x ≡ head) (λ x. root_moved x q ≡ head) values
MayFollowIn Rest q head values = AllByRecursion (λ x. root_moved x q ≡ head) values
MayFollowIn Broken q head values = ⊥

-- The ring is good if these values follow those that have been read.
abbrev pub MayFollow : RingReading → List ℕ → Type 0
MayFollow reading values = MayFollowIn reading.part reading.modulus reading.head values
