-- What stays when one client is written back to its place.
use Rattle.std.proofs.Common.{◌≡◌, ◌≢◌, ◌<◌, ◌≤◌, ◌∙◌, ℕ, List, length, get_or, None, Some, ap, sym, inl, inr, arith, []}
use Rattle.std.specs.Prelude.{is_some, slice_set}
use Rattle.std.proofs.lemmas.Bool.{cases_eq}
use Rattle.std.proofs.lemmas.List.{get_or_past}
use Rattle.circular_buffer.specs.Buffer.{Buffer}
use Rattle.slab.specs.Slab.{Slab, get, with_value}
use Rattle.slab.proofs.SlabLemmas.{Updates-with_value}
use Rattle.node_connections.specs.declared.clients.Client.{Client}
use Rattle.node_connections.proofs.GoingOut.{buffer-at}
use Rattle.node_connections.proofs.Lives.{there}
use Rattle.node_connections.proofs.Rooms.{HaveRoom, rooms-set}

module _ {P : Type 0} (s : Slab (Client P)) (k : ℕ) (old new : Client P) (e : Some old ≡ get s k) where
  -- all others stay as they are
  pub others-still : (t : ℕ) → t ≢ k → get (with_value s k new) t ≡ get s t
  others-still t other = (Updates-with_value s k new (there s k old e)).others t other

  -- the same clients are there
  pub there-still : (t : ℕ) → is_some (get (with_value s k new) t) ≡ is_some (get s t)
  there-still t =
      elim (cases_eq t k) [
        | inl same ↦ rw same (ap (λ x. is_some x) (Updates-with_value s k new (there s k old e)).changed ∙ ap (λ x. is_some x) e)
        | inr other ↦ ap (λ x. is_some x) (others-still t other)
      ]

  -- nobody is there from 128 on
  pub none-still : ((t : ℕ) → 128 ≤ t → get s t ≡ None) → (t : ℕ) → 128 ≤ t → get (with_value s k new) t ≡ None
  none-still none t from =
      elim (cases_eq t k) [
        | inl same ↦ (let out : Some old ≡ None = e ∙ (ap (λ u. get s u) (sym same) ∙ none t from) in absurd cc)
        | inr other ↦ others-still t other ∙ none t from
      ]

-- a buffer that was changed has the room that it had
pub room-after : (bs : List (Buffer ℕ)) (k : ℕ) (old new : Buffer ℕ) → length bs ≡ 128 → k < 128 → HaveRoom 128 bs → old ≡ get_or bs k old → new.capacity ≡ old.capacity → HaveRoom 128 (slice_set bs k new)
room-after bs k old new size below room is same =
    let less : k < length bs = rw size below in
    rooms-set 128 bs k new less (same ∙ (ap (λ b. b.capacity) (sym (buffer-at bs k old less is)) ∙ room k below)) room

-- nobody is in a table with no slots
pub none-first : {T : Type 0} (s : Slab T) → s.slots ≡ [] → (t : ℕ) → get s t ≡ None
none-first s empty t = rw empty (get_or_past [] t None (omega arith))
