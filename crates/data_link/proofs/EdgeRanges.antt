-- An edge in range stays in range, and its link ring is a ring of at most 2C + 2 values
use Rattle.std.proofs.Common.{ℕ, ◌+◌, ◌*◌, ◌%◌, ◌<◌, ◌≤◌, List, [], ◌∷◌, length, arith, length-append}
use Rattle.std.specs.List.{AllByRecursion}
use Rattle.std.proofs.lemmas.Grind.{common_steps}
use Rattle.std.proofs.Math.Nat.{mod-lt}
use Rattle.link_model.specs.topology.declared.frame.Frame.{Frame}
use Rattle.link_model.specs.topology.declared.frame.Payload.{Payload}
use Rattle.link_model.specs.declared.item.Item.{Item}
use Rattle.link_model.specs.declared.item.Item.TheVariants as item
use Rattle.k_state.specs.Ring.{IsRing}
use Rattle.data_link.specs.Port.{PortState, frame_of, port_after}
use Rattle.data_link.specs.Edge.{EdgeState, EdgeEvent, SendOut, SendBack, TakeOut, TakeBack, LoseOut, LoseBack, Elsewhere, IsPortBelow, IsItemBelow, IsEdgeInRange, modulus_of, port_taking, edge_step, edge_run, newest_first, link_ring}
use Rattle.data_link.proofs.UnderWay.{All-put, All-rest, All-remove, All-join, length-put, length-rest, length-remove}

frame-below : (q : ℕ) (p : PortState) (f : Frame) (present : Payload) → 0 < q → IsPortBelow q p → f.seq < q → IsPortBelow q (port_after q p f present)
frame-below q p f present l h g = let m : (p.seq + 1) % q < q = mod-lt (p.seq + 1) l in grind (arith, common_steps)

port-below : (q : ℕ) (p : PortState) (items : List Item) (present : Payload) → 0 < q → IsPortBelow q p → AllByRecursion (IsItemBelow q) items → IsPortBelow q (port_taking q p items present)
port-below q p [] present l h g = h
port-below q p (item.Noise ∷ items) present l h g = h
port-below q p (item.Frame f ∷ items) present l h g = frame-below q p f present l h g.0.0

pub range-event : (capacity : ℕ) (s : EdgeState) (e : EdgeEvent) → IsEdgeInRange capacity s → IsEdgeInRange capacity (edge_step capacity s e)
range-event capacity s SendOut r = record { near = r.near; far = r.far; out = All-put (IsItemBelow (modulus_of capacity)) capacity s.out (item.Frame (frame_of s.near)) r.out r.near; back = r.back; out_fits = length-put capacity s.out (item.Frame (frame_of s.near)) r.out_fits; back_fits = r.back_fits }
range-event capacity s SendBack r = record { near = r.near; far = r.far; out = r.out; back = All-put (IsItemBelow (modulus_of capacity)) capacity s.back (item.Frame (frame_of s.far)) r.back r.far; out_fits = r.out_fits; back_fits = length-put capacity s.back (item.Frame (frame_of s.far)) r.back_fits }
range-event capacity s (TakeOut present) r = record { near = r.near; far = port-below (modulus_of capacity) s.far s.out present (omega arith) r.far r.out; out = All-rest (IsItemBelow (modulus_of capacity)) s.out r.out; back = r.back; out_fits = omega (arith, r.out_fits, length-rest s.out); back_fits = r.back_fits }
range-event capacity s (TakeBack present) r = record { near = port-below (modulus_of capacity) s.near s.back present (omega arith) r.near r.back; far = r.far; out = r.out; back = All-rest (IsItemBelow (modulus_of capacity)) s.back r.back; out_fits = r.out_fits; back_fits = omega (arith, r.back_fits, length-rest s.back) }
range-event capacity s (LoseOut i) r = record { near = r.near; far = r.far; out = All-remove (IsItemBelow (modulus_of capacity)) s.out i r.out; back = r.back; out_fits = omega (arith, r.out_fits, length-remove s.out i); back_fits = r.back_fits }
range-event capacity s (LoseBack i) r = record { near = r.near; far = r.far; out = r.out; back = All-remove (IsItemBelow (modulus_of capacity)) s.back i r.back; out_fits = r.out_fits; back_fits = omega (arith, r.back_fits, length-remove s.back i) }
range-event capacity s Elsewhere r = r

pub range-run : (capacity : ℕ) (s : EdgeState) (es : List EdgeEvent) → IsEdgeInRange capacity s → IsEdgeInRange capacity (edge_run capacity s es)
range-run capacity s [] r = r
range-run capacity s (e ∷ es) r = range-run capacity (edge_step capacity s e) es (range-event capacity s e r)

-- ---- the link ring

seqs-below : (q : ℕ) (items : List Item) → AllByRecursion (IsItemBelow q) items → AllByRecursion (λ x. x < q) (newest_first (λ f. f.seq) items)
seqs-below q [] h = tt
seqs-below q (item.Noise ∷ items) h = seqs-below q items h.1
seqs-below q (item.Frame f ∷ items) h = All-join (λ x. x < q) (newest_first (λ x. x.seq) items) (f.seq ∷ []) (seqs-below q items h.1) (h.0.0, tt)

acks-below : (q : ℕ) (items : List Item) → AllByRecursion (IsItemBelow q) items → AllByRecursion (λ x. x < q) (newest_first (λ f. f.ack) items)
acks-below q [] h = tt
acks-below q (item.Noise ∷ items) h = acks-below q items h.1
acks-below q (item.Frame f ∷ items) h = All-join (λ x. x < q) (newest_first (λ x. x.ack) items) (f.ack ∷ []) (acks-below q items h.1) (h.0.1, tt)

pub ring-of_edge : (capacity : ℕ) (s : EdgeState) → IsEdgeInRange capacity s → IsRing (modulus_of capacity) (link_ring s)
ring-of_edge capacity s r = (
  omega arith,
  (r.near.0, All-join (λ x. x < modulus_of capacity) (newest_first (λ f. f.seq) s.out) (s.far.last ∷ newest_first (λ f. f.ack) s.back) (seqs-below (modulus_of capacity) s.out r.out) (r.far.1, acks-below (modulus_of capacity) s.back r.back)),
)

newest-length : (f : Frame → ℕ) (items : List Item) → length (newest_first f items) ≤ length items
newest-length f [] = omega arith
newest-length f (item.Noise ∷ items) = omega (arith, newest-length f items)
newest-length f (item.Frame x ∷ items) = omega (arith, newest-length f items, length-append (newest_first f items) (f x ∷ []))

pub ring-length : (capacity : ℕ) (s : EdgeState) → IsEdgeInRange capacity s → length (link_ring s) ≤ 2 * capacity + 2
ring-length capacity s r =
    omega (arith, r.out_fits, r.back_fits, newest-length (λ f. f.seq) s.out, newest-length (λ f. f.ack) s.back, length-append (newest_first (λ f. f.seq) s.out) (s.far.last ∷ newest_first (λ f. f.ack) s.back))
