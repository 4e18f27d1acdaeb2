-- Each event of an edge is a few changes of its link ring, and at most one head move
use Rattle.std.proofs.Common.{◌≡◌, ℕ, ◌==◌, nat_lt, ◌⊎◌, inl, inr, zero, suc, List, [], ◌∷◌, ◌++◌, length, drop, remove, Bool, true, false, cond, refl, sym, ◌∙◌, ap, subst, append_assoc, append-nil}
use Rattle.std.proofs.lemmas.Bool.{eqb-true}
use Rattle.link_model.specs.topology.declared.frame.Frame.{Frame}
use Rattle.link_model.specs.topology.declared.frame.Payload.{Payload}
use Rattle.link_model.specs.declared.item.Item.{Item}
use Rattle.link_model.specs.declared.item.Item.TheVariants as item
use Rattle.k_state.specs.Machine.{root_moved}
use Rattle.k_state.specs.Ring.{Change, Copied, Written, Removed, Further, Dropped, Step, Stays, Moves, Changes, last_of, but_last}
use Rattle.data_link.specs.Port.{PortState, frame_of, port_acked, port_heard}
use Rattle.data_link.specs.Edge.{EdgeState, EdgeEvent, SendOut, SendBack, TakeOut, TakeBack, LoseOut, LoseBack, Elsewhere, port_taking, edge_step_with, acked_by, moves, newest_first, link_ring}

-- ---- changes at a place

pub by_test : {X : Type 0} (P : X → Type 0) (b : Bool) (x y : X) → (b ≡ true → P x) → (b ≡ false → P y) → P (cond b x y)
by_test P true x y t f = t refl
by_test P false x y t f = f refl

further : (p : List ℕ) {xs ys : List ℕ} → Change xs ys → Change (p ++ xs) (p ++ ys)
further [] c = c
further (x ∷ p) c = Further (further p c)

removed : (x : ℕ) (p : List ℕ) (y : ℕ) (s : List ℕ) → Change (x ∷ (p ++ y ∷ s)) (x ∷ (p ++ s))
removed x [] y s = Removed
removed x (z ∷ p) y s = Further (removed z p y s)

last-push : (x : ℕ) (p : List ℕ) (y : ℕ) → last_of x (p ++ y ∷ []) ≡ y
last-push x [] y = refl
last-push x (z ∷ p) y = last-push z p y

but_last-push : (x : ℕ) (p : List ℕ) (y : ℕ) → but_last x (p ++ y ∷ []) ≡ x ∷ p
but_last-push x [] y = refl
but_last-push x (z ∷ p) y = ap (λ l. x ∷ l) (but_last-push z p y)

-- an item is written over its right neighbour and goes
over_and_out : (q h : ℕ) (p s : List ℕ) (x y : ℕ) → Step q 0 (h ∷ ((p ++ x ∷ []) ++ y ∷ s)) (h ∷ (p ++ x ∷ s))
over_and_out q h p s x y = rw append_assoc (Changes (Further (further p Written)) (Changes (removed h p x (x ∷ s)) Stays))

-- an item in front of the far port's number goes, or one after it
lose_front : (q h : ℕ) (p s r : List ℕ) (y : ℕ) → Step q 0 (h ∷ ((p ++ y ∷ s) ++ r)) (h ∷ ((p ++ s) ++ r))
lose_front q h p s r y = rw (append_assoc p (y ∷ s) r, append_assoc p s r) (Changes (removed h p y (s ++ r)) Stays)

lose_after : (q h : ℕ) (front p s : List ℕ) (l y : ℕ) → Step q 0 (h ∷ (front ++ l ∷ (p ++ y ∷ s))) (h ∷ (front ++ l ∷ (p ++ s)))
lose_after q h front p s l y = Changes (Further (further front (removed l p y s))) Stays

-- the last item equals the head, which moves on, and goes
drop_last : (q h : ℕ) (zs : List ℕ) (y : ℕ) → y ≡ h → Step q 1 (h ∷ (zs ++ y ∷ [])) (root_moved h q ∷ zs)
drop_last q h [] y e = Moves (Dropped e)
drop_last q h (z ∷ zs) y e = subst (λ l. Step q 1 (h ∷ z ∷ (zs ++ y ∷ [])) (root_moved h q ∷ l)) (but_last-push z zs y) (Moves (Dropped (last-push z zs y ∙ e)))

-- ---- the numbers of a link's frames

newest-push : (f : Frame → ℕ) (items : List Item) (x : Frame) → newest_first f (items ++ item.Frame x ∷ []) ≡ f x ∷ newest_first f items
newest-push f [] x = refl
newest-push f (item.Noise ∷ items) x = newest-push f items x
newest-push f (item.Frame y ∷ items) x = ap (λ l. l ++ f y ∷ []) (newest-push f items x)

newest-remove : (f : Frame → ℕ) (items : List Item) (i : ℕ) →
    (newest_first f items ≡ newest_first f (remove items i))
    ⊎ ((p s : List ℕ) × (y : ℕ) × (newest_first f items ≡ p ++ y ∷ s) × (newest_first f (remove items i) ≡ p ++ s))
newest-remove f [] zero = inl refl
newest-remove f [] (suc i) = inl refl
newest-remove f (item.Noise ∷ items) zero = inl refl
newest-remove f (item.Frame x ∷ items) zero = inr (newest_first f items, [], f x, refl, sym (append-nil (newest_first f items)))
newest-remove f (item.Noise ∷ items) (suc i) = newest-remove f items i
newest-remove f (item.Frame x ∷ items) (suc i) = elim (newest-remove f items i) [
  | inl e ↦ inl (ap (λ l. l ++ f x ∷ []) e)
  | inr w ↦ inr (w.0, w.1 ++ f x ∷ [], w.2, ap (λ l. l ++ f x ∷ []) w.3 ∙ append_assoc w.0 (w.2 ∷ w.1) (f x ∷ []), ap (λ l. l ++ f x ∷ []) w.4 ∙ append_assoc w.0 w.1 (f x ∷ []))
]

-- ---- the events

pub heard-last : (p : PortState) (f : Frame) → (port_heard p f).last ≡ f.seq
heard-last p f = by_test (λ (r : PortState). r.last ≡ f.seq) (f.seq == p.last) p (record p { last = f.seq; copy = f.payload }) (λ t. sym (eqb-true f.seq p.last t)) (λ t. refl)

pub heard-seq : (p : PortState) (f : Frame) → (port_heard p f).seq ≡ p.seq
heard-seq p f = by_test (λ (r : PortState). r.seq ≡ p.seq) (f.seq == p.last) p (record p { last = f.seq; copy = f.payload }) (λ t. refl) (λ t. refl)

take_out-step : (q : ℕ) (s : EdgeState) (present : Payload) (items : List Item) → s.out ≡ items →
    Step q 0 (link_ring s) (link_ring (record s { far = port_taking q s.far items present; out = drop 1 items }))
take_out-step q s present [] e = rw e Stays
take_out-step q s present (item.Noise ∷ items) e = rw e Stays
take_out-step q s present (item.Frame f ∷ items) e = rw (e, heard-last (port_acked q s.far f present) f)
    (over_and_out q s.near.seq (newest_first (λ x. x.seq) items) (newest_first (λ x. x.ack) s.back) f.seq s.far.last)

take_back-step : (q : ℕ) (s : EdgeState) (present : Payload) (items : List Item) → s.back ≡ items →
    Step q (acked_by s.near items) (link_ring s) (link_ring (record s { near = port_taking q s.near items present; back = drop 1 items }))
take_back-step q s present [] e = rw e Stays
take_back-step q s present (item.Noise ∷ items) e = rw e Stays
take_back-step q s present (item.Frame f ∷ items) e = rw (e, heard-seq (port_acked q s.near f present) f) (go (f.ack == s.near.seq) refl)
  where
    go : (b : Bool) → (f.ack == s.near.seq) ≡ b → Step q (cond b 1 0) (s.near.seq ∷ (newest_first (λ x. x.seq) s.out ++ s.far.last ∷ (newest_first (λ x. x.ack) items ++ f.ack ∷ [])))
        ((cond b (record s.near { seq = root_moved s.near.seq q; staged = present }) s.near).seq ∷ (newest_first (λ x. x.seq) s.out ++ s.far.last ∷ newest_first (λ x. x.ack) items))
    go true t = rw (← append_assoc (newest_first (λ x. x.seq) s.out) (s.far.last ∷ newest_first (λ x. x.ack) items) (f.ack ∷ []))
        (drop_last q s.near.seq (newest_first (λ x. x.seq) s.out ++ s.far.last ∷ newest_first (λ x. x.ack) items) f.ack (eqb-true f.ack s.near.seq t))
    go false t = subst (λ l. Step q 0 (s.near.seq ∷ (newest_first (λ x. x.seq) s.out ++ s.far.last ∷ (newest_first (λ x. x.ack) items ++ f.ack ∷ []))) (s.near.seq ∷ (newest_first (λ x. x.seq) s.out ++ s.far.last ∷ l)))
        (append-nil (newest_first (λ x. x.ack) items)) (lose_after q s.near.seq (newest_first (λ x. x.seq) s.out) (newest_first (λ x. x.ack) items) [] s.far.last f.ack)

pub event-step : (modulus capacity : ℕ) (s : EdgeState) (e : EdgeEvent) → Step modulus (moves s e) (link_ring s) (link_ring (edge_step_with modulus capacity s e))
event-step q capacity s SendOut = by_test (λ items. Step q 0 (link_ring s) (link_ring (record s { out = items }))) (nat_lt (length s.out) capacity) (s.out ++ item.Frame (frame_of s.near) ∷ []) s.out
    (λ t. rw (newest-push (λ f. f.seq) s.out (frame_of s.near)) (Changes Copied Stays)) (λ t. Stays)
event-step q capacity s SendBack = by_test (λ items. Step q 0 (link_ring s) (link_ring (record s { back = items }))) (nat_lt (length s.back) capacity) (s.back ++ item.Frame (frame_of s.far) ∷ []) s.back
    (λ t. rw (newest-push (λ f. f.ack) s.back (frame_of s.far)) (Changes (Further (further (newest_first (λ f. f.seq) s.out) Copied)) Stays)) (λ t. Stays)
event-step q capacity s (TakeOut present) = take_out-step q s present s.out refl
event-step q capacity s (TakeBack present) = take_back-step q s present s.back refl
event-step q capacity s (LoseOut i) = elim (newest-remove (λ f. f.seq) s.out i) [
  | inl e ↦ rw (← e) Stays
  | inr v ↦ rw (v.3, v.4) (lose_front q s.near.seq v.0 v.1 (s.far.last ∷ newest_first (λ f. f.ack) s.back) v.2)
]
event-step q capacity s (LoseBack i) = elim (newest-remove (λ f. f.ack) s.back i) [
  | inl e ↦ rw (← e) Stays
  | inr v ↦ rw (v.3, v.4) (lose_after q s.near.seq (newest_first (λ f. f.seq) s.out) v.0 v.1 s.far.last v.2)
]
event-step q capacity s Elsewhere = Stays
