-- The room for answers, one client after the other.
use Rattle.std.proofs.Common.{◌≡◌, ◌<◌, ◌+◌, ℕ, List, ◌∷◌, ◌++◌, length, slice_index_or, inl, inr, []}
use Rattle.std.specs.Prelude.{slice_set}
use Rattle.std.proofs.lemmas.List.{get_or-set_same, get_or-set_other, get_or_append_left}
use Rattle.std.proofs.Math.Seq.{get_or-append_seam}
use Rattle.std.proofs.lemmas.Bool.{cases_eq}
use Rattle.circular_buffer.specs.Buffer.{Buffer, buffer}
use Rattle.node_connections.proofs.Places.{below-or-last}

-- each of the first n has room for 256 bytes
abbrev pub HaveRoom : ℕ → List (Buffer ℕ) → Type 0
HaveRoom n rooms = (t : ℕ) → t < n → (slice_index_or rooms t (buffer [] 0)).capacity ≡ 256

pub rooms-set : (n : ℕ) (rooms : List (Buffer ℕ)) (k : ℕ) (b : Buffer ℕ) → k < length rooms → b.capacity ≡ 256 → HaveRoom n rooms → HaveRoom n (slice_set rooms k b)
rooms-set n rooms k b within room so t below =
    elim (cases_eq t k) [
      | inl same ↦ (let e : slice_index_or (slice_set rooms k b) t (buffer [] 0) ≡ b = rw same (get_or-set_same rooms k b (buffer [] 0) within) in rw e room)
      | inr other ↦ (let e : slice_index_or (slice_set rooms k b) t (buffer [] 0) ≡ slice_index_or rooms t (buffer [] 0) = get_or-set_other rooms k t b (buffer [] 0) other in rw e (so t below))
    ]

pub rooms-pushed : (n : ℕ) (rooms : List (Buffer ℕ)) (b : Buffer ℕ) → length rooms ≡ n → b.capacity ≡ 256 → HaveRoom n rooms → HaveRoom (n + 1) (rooms ++ b ∷ [])
rooms-pushed n rooms b size room so t below =
    elim (below-or-last t n below) [
      | inl less ↦ (let e : slice_index_or (rooms ++ b ∷ []) t (buffer [] 0) ≡ slice_index_or rooms t (buffer [] 0) = get_or_append_left rooms (b ∷ []) (buffer [] 0) t (rw size less) in rw e (so t less))
      | inr last ↦ (let e : slice_index_or (rooms ++ b ∷ []) t (buffer [] 0) ≡ b = rw (last, ← size) (get_or-append_seam rooms b [] (buffer [] 0)) in rw e room)
    ]
