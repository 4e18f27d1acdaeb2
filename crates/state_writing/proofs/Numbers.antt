-- The numbers of a file, port by port.
use Rattle.std.proofs.Common.{◌≡◌, ◌<◌, ◌+◌, ◌∙◌, ap, sym, ℕ, List, [], ◌∷◌, ◌++◌, length, take, slice_index_or, Contains, append_assoc, append-nil}
use Rattle.std.proofs.Common.{Result, Ok, Err, IsOk, OnOk, arith}
use Rattle.std.specs.List.{flat_map}
use Rattle.std.proofs.lemmas.List.{take_more, get_or_default}
use Rattle.std.proofs.lemmas.Grind.{flat_map-append}
use Rattle.topology.specs.Network.{Network, neighbours_of}
use Rattle.topology.specs.Laws.{NeighboursAreJoined}

-- each of the neighbours is a node
pub neighbour_below : NeighboursAreJoined → (net : Network) (v i : ℕ) (ns : List ℕ) → ns ≡ neighbours_of net v → i < length ns → slice_index_or ns i 0 < net.nodes
neighbour_below joined net v i ns e below =
    let w = slice_index_or ns i 0 in
    let in_list : Contains ns w = (i, below, get_or_default ns i w 0 below) in
    let known : Contains (neighbours_of net v) w = rw (← e) in_list in
    ((joined net v w).0 known).0

-- one more port
pub port_more : (f : ℕ → List ℕ) (front : List ℕ) (ns : List ℕ) (i : ℕ) → i < length ns
    → (front ++ flat_map f (take i ns)) ++ f (slice_index_or ns i 0) ≡ front ++ flat_map f (take (i + 1) ns)
port_more f front ns i below =
    append_assoc front (flat_map f (take i ns)) (f (slice_index_or ns i 0))
    ∙ ap (λ xs. front ++ (flat_map f (take i ns) ++ xs)) (sym (append-nil (f (slice_index_or ns i 0))))
    ∙ ap (λ xs. front ++ xs) (sym (flat_map-append f (take i ns) (slice_index_or ns i 0 ∷ [])))
    ∙ ap (λ xs. front ++ flat_map f xs) (sym (take_more ns i 0 below))

-- if a call that answers Ok does something, it is done
pub on_ok : {T E P : Type 0} (r : Result T E) → IsOk r → OnOk r P → P
on_ok (Ok x) ok done = done
on_ok (Err e) ok done = absurd (grind arith)
