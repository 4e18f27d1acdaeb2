-- If near's number has K throughout two sweeps, every number of the link ring has K after them
use Rattle.std.proofs.Common.{◌≡◌, ℕ, suc, List, [], ◌∷◌, ◌++◌, map, drop, true, sym, subst, arith}
use Rattle.std.specs.List.{AllByRecursion}
use Rattle.link_model.specs.topology.declared.frame.Frame.{Frame}
use Rattle.link_model.specs.topology.declared.frame.Payload.{Payload}
use Rattle.link_model.specs.declared.item.Item.{Item}
use Rattle.link_model.specs.declared.item.Item.TheVariants as item
use Rattle.k_state.specs.Ring.{tail_of}
use Rattle.data_link.specs.Port.{frame_of, port_acked}
use Rattle.data_link.specs.Edge.{EdgeState, EdgeEvent, SendOut, SendBack, TakeOut, TakeBack, LoseOut, LoseBack, Elsewhere, port_taking, edge_step, edge_run, modulus_of, link_ring, newest_first}
use Rattle.data_link.specs.Sweep.{Takes, act_out, act_back, list_after, Origin, Before, Sent, takes_sent, hands_over_sent, IsSweep}
use Rattle.data_link.proofs.LinkSteps.{heard-last}
use Rattle.data_link.proofs.UnderWay.{All-put, All-rest, All-remove, All-join, OfItem, OfAll, all-stays}
use Rattle.data_link.proofs.Marks.{IsMarked, IsFirstGood, marked-start, marked-after, marked-taken, by_taken, out-after, back-after}

-- the item is a frame, and a number of it has K
abbrev pub HasNumber : (Frame → ℕ) → (ℕ → Type 0) → Item → Type 0
HasNumber number K item.Noise = ⊥
HasNumber number K (item.Frame f) = K (number f)

-- the item's acknowledgement has K, if the item is a frame
abbrev pub OfAck : (ℕ → Type 0) → Item → Type 0
OfAck K item.Noise = Unit {0}
OfAck K (item.Frame f) = K f.ack

module _ (K : ℕ → Type 0) where
  -- near's number has K at every moment of a run
  abbrev pub AlwaysHas : ℕ → EdgeState → List EdgeEvent → Type 0
  AlwaysHas capacity s [] = K s.near.seq
  AlwaysHas capacity s (e ∷ es) = K s.near.seq × AlwaysHas capacity (edge_step capacity s e) es

  -- the numbers on their way out have K, and the last that far accepted
  abbrev pub AreHeard : EdgeState → Type 0
  AreHeard s = OfAll (λ number payload. K number) s

  -- and so have all acknowledgements on their way back
  pub record AreKnown (s : EdgeState) : Type 0 where
    pub heard : AreHeard s
    pub acks : AllByRecursion (OfAck K) s.back

  -- an item with a number, or with an acknowledgement, that has K
  abbrev pub Out : Item → Type 0
  Out = HasNumber (λ f. f.seq) K

  abbrev pub Back : Item → Type 0
  Back = HasNumber (λ f. f.ack) K

  -- ---- one event

  pub heard-event : (capacity : ℕ) (s : EdgeState) (e : EdgeEvent) → K s.near.seq → AreHeard s → AreHeard (edge_step capacity s e)
  heard-event capacity s e k h = all-stays (λ number payload. K number) capacity s e k h

  acks-event : (capacity : ℕ) (s : EdgeState) (e : EdgeEvent) → K s.far.last → AllByRecursion (OfAck K) s.back
      → AllByRecursion (OfAck K) (edge_step capacity s e).back
  acks-event capacity s SendOut k h = h
  acks-event capacity s SendBack k h = All-put (OfAck K) capacity s.back (item.Frame (frame_of s.far)) h k
  acks-event capacity s (TakeOut present) k h = h
  acks-event capacity s (TakeBack present) k h = All-rest (OfAck K) s.back h
  acks-event capacity s (LoseOut i) k h = h
  acks-event capacity s (LoseBack i) k h = All-remove (OfAck K) s.back i h
  acks-event capacity s Elsewhere k h = h

  pub known-event : (capacity : ℕ) (s : EdgeState) (e : EdgeEvent) → K s.near.seq → AreKnown s → AreKnown (edge_step capacity s e)
  known-event capacity s e k h = record {
    heard = heard-event capacity s e k h.heard;
    acks = acks-event capacity s e h.heard.accepted h.acks;
  }

  -- ---- the first sweep: far takes an item that near sent inside it

  sent-out : (items : List Item) → AllByRecursion Out items → AllByRecursion (OfItem (λ number payload. K number)) items
  sent-out [] h = tt
  sent-out (item.Noise ∷ items) h = absurd h.0
  sent-out (item.Frame f ∷ items) h = (h.0, sent-out items h.1)

  out-taken : (q : ℕ) (s : EdgeState) (present : Payload) (items : List Item) → IsFirstGood Out items
      → AreHeard (record s { far = port_taking q s.far items present; out = drop 1 items })
  out-taken q s present [] g = absurd g
  out-taken q s present (item.Noise ∷ items) g = absurd g.0
  out-taken q s present (item.Frame f ∷ items) g = record {
    out = sent-out items g.1;
    accepted = subst K (sym (heard-last (port_acked q s.far f present) f)) g.0;
  }

  first-taken : (capacity : ℕ) (s : EdgeState) (e : EdgeEvent) → act_out e ≡ Takes → IsFirstGood Out s.out → AreHeard (edge_step capacity s e)
  first-taken capacity s e t g = grind (arith, out-taken (modulus_of capacity) s)

  heard-run : (capacity : ℕ) (s : EdgeState) (es : List EdgeEvent) → AlwaysHas capacity s es → AreHeard s → AreHeard (edge_run capacity s es)
  heard-run capacity s [] k h = h
  heard-run capacity s (e ∷ es) k h = heard-run capacity (edge_step capacity s e) es k.1 (heard-event capacity s e k.0 h)

  first-run : (capacity i : ℕ) (s : EdgeState) (es : List EdgeEvent) (os : List Origin) → AlwaysHas capacity s es → IsMarked Out os s.out
      → hands_over_sent capacity i (map act_out es) os ≡ true → AreHeard (edge_run capacity s es)
  first-run capacity i s [] os k m h = absurd cc
  first-run capacity i s (e ∷ es) os k m h =
      let after = edge_step capacity s e in
      let marks = list_after capacity (Sent i) (act_out e) os in
      let marked = marked-after Out capacity i (item.Frame (frame_of s.near)) (act_out e) os s.out k.0 m in
      by_taken (takes_sent (act_out e) os) (hands_over_sent capacity (suc i) (map act_out es) marks) h
      (λ t. let g = marked-taken Out (act_out e) os s.out t m in heard-run capacity after es k.1 (first-taken capacity s e g.0 g.1))
      (λ t r. first-run capacity (suc i) after es marks k.1 (subst (IsMarked Out marks) (out-after capacity s e) marked) r)

  pub heard-in_sweep : (capacity : ℕ) (s : EdgeState) (es : List EdgeEvent) → AlwaysHas capacity s es → IsSweep capacity s es
      → AreHeard (edge_run capacity s es)
  heard-in_sweep capacity s es k sweep = first-run capacity 0 s es (map (λ x. Before) s.out) k (marked-start Out s.out) sweep.out

  -- ---- the second sweep: near takes an item that far sent inside it

  sent-back : (items : List Item) → AllByRecursion Back items → AllByRecursion (OfAck K) items
  sent-back [] h = tt
  sent-back (item.Noise ∷ items) h = absurd h.0
  sent-back (item.Frame f ∷ items) h = (h.0, sent-back items h.1)

  back-taken : (items : List Item) → IsFirstGood Back items → AllByRecursion (OfAck K) (drop 1 items)
  back-taken [] g = absurd g
  back-taken (x ∷ items) g = sent-back items g.1

  second-taken : (capacity : ℕ) (s : EdgeState) (e : EdgeEvent) → act_back e ≡ Takes → IsFirstGood Back s.back
      → AllByRecursion (OfAck K) (edge_step capacity s e).back
  second-taken capacity s e t g = grind (arith, back-taken s.back g)

  known-run : (capacity : ℕ) (s : EdgeState) (es : List EdgeEvent) → AlwaysHas capacity s es → AreKnown s → AreKnown (edge_run capacity s es)
  known-run capacity s [] k h = h
  known-run capacity s (e ∷ es) k h = known-run capacity (edge_step capacity s e) es k.1 (known-event capacity s e k.0 h)

  second-run : (capacity i : ℕ) (s : EdgeState) (es : List EdgeEvent) (os : List Origin) → AlwaysHas capacity s es → AreHeard s
      → IsMarked Back os s.back → hands_over_sent capacity i (map act_back es) os ≡ true → AreKnown (edge_run capacity s es)
  second-run capacity i s [] os k heard m h = absurd cc
  second-run capacity i s (e ∷ es) os k heard m h =
      let after = edge_step capacity s e in
      let marks = list_after capacity (Sent i) (act_back e) os in
      let marked = marked-after Back capacity i (item.Frame (frame_of s.far)) (act_back e) os s.back heard.accepted m in
      let next = heard-event capacity s e k.0 heard in
      by_taken (takes_sent (act_back e) os) (hands_over_sent capacity (suc i) (map act_back es) marks) h
      (λ t. let g = marked-taken Back (act_back e) os s.back t m in
      known-run capacity after es k.1 (record { heard = next; acks = second-taken capacity s e g.0 g.1 }))
      (λ t r. second-run capacity (suc i) after es marks k.1 next (subst (IsMarked Back marks) (back-after capacity s e) marked) r)

  pub known-in_sweep : (capacity : ℕ) (s : EdgeState) (es : List EdgeEvent) → AlwaysHas capacity s es → AreHeard s → IsSweep capacity s es
      → AreKnown (edge_run capacity s es)
  known-in_sweep capacity s es k heard sweep =
      second-run capacity 0 s es (map (λ x. Before) s.back) k heard (marked-start Back s.back) sweep.back

  -- ---- both

  always-first : (capacity : ℕ) (s : EdgeState) (es : List EdgeEvent) → AlwaysHas capacity s es → K s.near.seq
  always-first capacity s [] h = h
  always-first capacity s (e ∷ es) h = h.0

  pub always-parts : (capacity : ℕ) (s : EdgeState) (xs ys : List EdgeEvent) → AlwaysHas capacity s (xs ++ ys)
      → AlwaysHas capacity s xs × AlwaysHas capacity (edge_run capacity s xs) ys
  always-parts capacity s [] ys h = (always-first capacity s ys h, h)
  always-parts capacity s (e ∷ xs) ys h = let w = always-parts capacity (edge_step capacity s e) xs ys h.1 in ((h.0, w.0), w.1)

  pub known-after_two : (capacity : ℕ) (s : EdgeState) (xs ys : List EdgeEvent) → AlwaysHas capacity s (xs ++ ys) → IsSweep capacity s xs
      → IsSweep capacity (edge_run capacity s xs) ys → AreKnown (edge_run capacity (edge_run capacity s xs) ys)
  known-after_two capacity s xs ys k a b =
      let w = always-parts capacity s xs ys k in
      known-in_sweep capacity (edge_run capacity s xs) ys w.1 (heard-in_sweep capacity s xs w.0 a) b

  -- so every number of the link ring after near's has K
  numbers-out : (items : List Item) → AllByRecursion (OfItem (λ number payload. K number)) items
      → AllByRecursion K (newest_first (λ f. f.seq) items)
  numbers-out [] h = tt
  numbers-out (item.Noise ∷ items) h = numbers-out items h.1
  numbers-out (item.Frame f ∷ items) h = All-join K (newest_first (λ x. x.seq) items) (f.seq ∷ []) (numbers-out items h.1) (h.0, tt)

  numbers-back : (items : List Item) → AllByRecursion (OfAck K) items → AllByRecursion K (newest_first (λ f. f.ack) items)
  numbers-back [] h = tt
  numbers-back (item.Noise ∷ items) h = numbers-back items h.1
  numbers-back (item.Frame f ∷ items) h = All-join K (newest_first (λ x. x.ack) items) (f.ack ∷ []) (numbers-back items h.1) (h.0, tt)

  pub known-numbers : (s : EdgeState) → AreKnown s → AllByRecursion K (tail_of (link_ring s))
  known-numbers s h =
      All-join K (newest_first (λ f. f.seq) s.out) (s.far.last ∷ newest_first (λ f. f.ack) s.back) (numbers-out s.out h.heard.out)
      (h.heard.accepted, numbers-back s.back h.acks)
