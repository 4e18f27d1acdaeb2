-- On a stable link the staged payload comes to far's copy, and what is staged was handed in as
-- present
use Rattle.std.proofs.Common.{◌≡◌, ◌≢◌, ℕ, ◌<◌, ◌⊎◌, inl, inr, suc, List, [], ◌∷◌, ◌++◌, map, Bool, true, IsTrue, refl, sym, ◌∙◌, ap, subst, append_assoc, arith}
use Rattle.std.specs.List.{AllByRecursion}
use Rattle.std.proofs.lemmas.Bool.{cases_eq}
use Rattle.std.proofs.lemmas.Grind.{common_steps}
use Rattle.link_model.specs.topology.declared.frame.Frame.{Frame}
use Rattle.link_model.specs.topology.declared.frame.Payload.{Payload}
use Rattle.link_model.specs.declared.item.Item.{Item}
use Rattle.link_model.specs.declared.item.Item.TheVariants as item
use Rattle.k_state.specs.Ring.{HasFront, IsFrontThen}
use Rattle.k_state.specs.Laws.{GoodHasFront}
use Rattle.data_link.specs.Refreshing.{StagedPasses}
use Rattle.data_link.specs.Port.{PortState, frame_of, port_after}
use Rattle.data_link.specs.Edge.{EdgeState, EdgeEvent, SendOut, SendBack, TakeOut, TakeBack, LoseOut, LoseBack, Elsewhere, CarriesItsPayload, IsEdgeInRange, IsStable, modulus_of, edge_step, edge_run, link_ring, moves, moves_in, newest_first, payload_under, port_taking}
use Rattle.data_link.specs.Sweep.{Takes, act_out, list_after, Origin, Before, Sent, takes_sent, hands_over_sent, IsSweep, PresentPasses, Sweeps}
use Rattle.data_link.proofs.UnderWay.{All-append, frames-newest, OfItem, OfAll, all-stays}
use Rattle.data_link.proofs.EdgeRanges.{range-event, range-run, ring-of_edge}
use Rattle.data_link.proofs.Marks.{IsMarked, IsFirstGood, marked-start, marked-after, marked-taken, by_taken, out-after}
use Rattle.data_link.proofs.Stable.{stays-in_runs}
use Rattle.data_link.proofs.Sweeping.{run-append, two-sweeps-move}

-- ---- what is staged

pub staged-present : (capacity : ℕ) (s : EdgeState) (e : EdgeEvent) →
    ((edge_step capacity s e).near.staged ≡ s.near.staged) ⊎ ((present : Payload) × (e ≡ TakeBack present) × ((edge_step capacity s e).near.staged ≡ present))
staged-present capacity s (TakeBack present) = elim (taking s.near s.back) [ inl e ↦ inl e | inr e ↦ inr (present, refl, e) ]
  where
    taking : (p : PortState) (items : List Item) → ((port_taking (modulus_of capacity) p items present).staged ≡ p.staged) ⊎ ((port_taking (modulus_of capacity) p items present).staged ≡ present)
    taking p [] = inl refl
    taking p (item.Noise ∷ items) = inl refl
    taking p (item.Frame f ∷ items) = grind (arith, common_steps)
staged-present capacity s SendOut = inl refl
staged-present capacity s SendBack = inl refl
staged-present capacity s (TakeOut present) = inl refl
staged-present capacity s (LoseOut i) = inl refl
staged-present capacity s (LoseBack i) = inl refl
staged-present capacity s Elsewhere = inl refl

staged-event : (test : Payload → Bool) (capacity : ℕ) (s : EdgeState) (e : EdgeEvent) → PresentPasses test e → IsTrue (test s.near.staged) → IsTrue (test (edge_step capacity s e).near.staged)
staged-event test capacity s e p h = grind (arith, common_steps)

staged-moved : (test : Payload → Bool) (capacity : ℕ) (s : EdgeState) (e : EdgeEvent) → PresentPasses test e → moves s e ≡ 1 → IsTrue (test (edge_step capacity s e).near.staged)
staged-moved test capacity s e p i = grind (arith, common_steps)

moves-cases : (s : EdgeState) (e : EdgeEvent) → (moves s e ≡ 0) ⊎ (moves s e ≡ 1)
moves-cases s e = grind (arith, common_steps)

pub staged-run : (test : Payload → Bool) (capacity : ℕ) (s : EdgeState) (es : List EdgeEvent) → AllByRecursion (PresentPasses test) es → IsTrue (test s.near.staged) → IsTrue (test (edge_run capacity s es).near.staged)
staged-run test capacity s [] p h = h
staged-run test capacity s (e ∷ es) p h = staged-run test capacity (edge_step capacity s e) es p.1 (staged-event test capacity s e p.0 h)

pub moved-run : (test : Payload → Bool) (capacity : ℕ) (s : EdgeState) (es : List EdgeEvent) → AllByRecursion (PresentPasses test) es → 0 < moves_in capacity s es → IsTrue (test (edge_run capacity s es).near.staged)
moved-run test capacity s [] p l = absurd (omega arith)
moved-run test capacity s (e ∷ es) p l = elim (moves-cases s e) [
  | inl z ↦ moved-run test capacity (edge_step capacity s e) es p.1 (omega (arith, z, l))
  | inr o ↦ staged-run test capacity (edge_step capacity s e) es p.1 (staged-moved test capacity s e p.0 o)
]

-- ---- what is under way on a stable link

copied-frame : (q : ℕ) (p near : PortState) (other : Payload) (f : Frame) (present : Payload) → p.copy ≡ payload_under near other p.last → f.payload ≡ payload_under near other f.seq →
    (port_after q p f present).copy ≡ f.payload
copied-frame q p near other f present h g = grind (arith, common_steps)

pub taken-copied : (capacity : ℕ) (s : EdgeState) (present : Payload) (f : Frame) (items : List Item) → IsStable capacity s → s.out ≡ item.Frame f ∷ items →
    (edge_step capacity s (TakeOut present)).far.copy ≡ f.payload
taken-copied capacity s present f items h e =
    let carries : AllByRecursion (CarriesItsPayload s.near h.other) (item.Frame f ∷ items) = subst (AllByRecursion (CarriesItsPayload s.near h.other)) e h.out in
    ap (λ l. (port_taking (modulus_of capacity) s.far l present).copy) e ∙ copied-frame (modulus_of capacity) s.far s.near h.other f present h.copied carries.0

-- if far's last number is the head of a good ring, each number on its way out is too
all-in_front : (a : ℕ) (xs ys : List ℕ) → IsFrontThen (λ x. x ≡ a) (λ x. x ≢ a) (xs ++ a ∷ ys) → AllByRecursion (λ x. x ≡ a) xs
all-in_front a [] ys h = tt
all-in_front a (x ∷ xs) ys (inl (e, h)) = (e, all-in_front a xs ys h)
all-in_front a (x ∷ xs) ys (inr (ne, qs)) = absurd ((All-append (λ x. x ≢ a) xs (a ∷ ys) qs).1.0 refl)

-- each payload on its way out is what near has staged or what far has copied
abbrev pub IsKnown : EdgeState → Payload → Type 0
IsKnown s x = (x ≡ s.far.copy) ⊎ (x ≡ s.near.staged)

known-new : (s : EdgeState) (other : Payload) (items : List Item) → AllByRecursion (CarriesItsPayload s.near other) items → AllByRecursion (OfItem (λ n x. n ≡ s.near.seq)) items → AllByRecursion (OfItem (λ n x. IsKnown s x)) items
known-new s other [] c e = tt
known-new s other (item.Noise ∷ items) c e = (tt, known-new s other items c.1 e.1)
known-new s other (item.Frame f ∷ items) c e = (inr (new s.near f c.0 e.0), known-new s other items c.1 e.1)
  where
    new : (near : PortState) (f : Frame) → f.payload ≡ payload_under near other f.seq → f.seq ≡ near.seq → f.payload ≡ near.staged
    new near f h i = grind (arith, common_steps)

known-either : (s : EdgeState) (other : Payload) (items : List Item) → AllByRecursion (CarriesItsPayload s.near other) items → s.far.copy ≡ other → AllByRecursion (OfItem (λ n x. IsKnown s x)) items
known-either s other [] c e = tt
known-either s other (item.Noise ∷ items) c e = (tt, known-either s other items c.1 e)
known-either s other (item.Frame f ∷ items) c e = (either s.near f c.0, known-either s other items c.1 e)
  where
    either : (near : PortState) (f : Frame) → f.payload ≡ payload_under near other f.seq → (f.payload ≡ s.far.copy) ⊎ (f.payload ≡ near.staged)
    either near f h = elim (cases_eq f.seq near.seq) [ inl i ↦ inr (grind (arith, common_steps)) | inr ne ↦ inl (grind (arith, common_steps)) ]

under-old : (near far : PortState) (other : Payload) → far.copy ≡ payload_under near other far.last → far.last ≢ near.seq → far.copy ≡ other
under-old near far other h ne = grind (arith, common_steps)

in_front : (s : EdgeState) → s.far.last ≡ s.near.seq → HasFront s.near.seq (link_ring s) → AllByRecursion (λ x. x ≡ s.near.seq) (newest_first (λ f. f.seq) s.out)
in_front s e (h, inr (ne, qs)) = absurd (ne refl)
in_front s e (h, inl (i, front)) = all-in_front s.near.seq (newest_first (λ f. f.seq) s.out) (newest_first (λ f. f.ack) s.back) (rw e at front)

module _ (good_front : GoodHasFront) (stable-event : (capacity : ℕ) (s : EdgeState) (e : EdgeEvent) → IsEdgeInRange capacity s → IsStable capacity s → IsStable capacity (edge_step capacity s e)) where
  pub stable-known : (capacity : ℕ) (s : EdgeState) → IsEdgeInRange capacity s → IsStable capacity s → OfAll (λ n x. IsKnown s x) s
  stable-known capacity s r h = elim (cases_eq s.far.last s.near.seq) [
    | inl e ↦ record { out = known-new s h.other s.out h.out (frames-newest (λ n. n ≡ s.near.seq) s.out (in_front s e (good_front (modulus_of capacity) (link_ring s) (omega arith) (ring-of_edge capacity s r) h.good))); accepted = inl refl }
    | inr ne ↦ record { out = known-either s h.other s.out h.out (under-old s.near s.far h.other h.copied ne); accepted = inl refl }
  ]

  pub copy-staged : (capacity : ℕ) (s : EdgeState) (e : EdgeEvent) → IsEdgeInRange capacity s → IsStable capacity s → ((edge_step capacity s e).far.copy ≡ s.far.copy) ⊎ ((edge_step capacity s e).far.copy ≡ s.near.staged)
  copy-staged capacity s e r h = (all-stays (λ n x. IsKnown s x) capacity s e (inr refl) (stable-known capacity s r h)).accepted

  -- ---- a test that each payload handed in passes

  passes-known : (test : Payload → Bool) (s : EdgeState) → IsTrue (test s.near.staged) → IsTrue (test s.far.copy) → (x : Payload) → IsKnown s x → IsTrue (test x)
  passes-known test s a b x (inl e) = rw e b
  passes-known test s a b x (inr e) = rw e a

  pub payloads-keep : (test : Payload → Bool) (capacity : ℕ) (s : EdgeState) (e : EdgeEvent) → IsEdgeInRange capacity s → IsStable capacity s → PresentPasses test e → IsTrue (test s.near.staged) → IsTrue (test s.far.copy) →
      IsTrue (test (edge_step capacity s e).near.staged) × IsTrue (test (edge_step capacity s e).far.copy)
  payloads-keep test capacity s e r h p a b = (staged-event test capacity s e p a, elim (copy-staged capacity s e r h) [ inl i ↦ (rw i b) | inr i ↦ (rw i a) ])

  pub payloads-run : (test : Payload → Bool) (capacity : ℕ) (s : EdgeState) (es : List EdgeEvent) → IsEdgeInRange capacity s → IsStable capacity s → AllByRecursion (PresentPasses test) es → IsTrue (test s.near.staged) → IsTrue (test s.far.copy) →
      IsTrue (test (edge_run capacity s es).near.staged) × IsTrue (test (edge_run capacity s es).far.copy)
  payloads-run test capacity s [] r h p a b = (a, b)
  payloads-run test capacity s (e ∷ es) r h p a b =
      let k = payloads-keep test capacity s e r h p.0 a b in
      payloads-run test capacity (edge_step capacity s e) es (range-event capacity s e r) (stable-event capacity s e r h) p.1 k.0 k.1

  -- ---- a sweep brings the staged payload to far's copy

  abbrev HasPayload : (Payload → Bool) → Item → Type 0
  HasPayload test item.Noise = ⊥
  HasPayload test (item.Frame f) = IsTrue (test f.payload)

  taken-first : (test : Payload → Bool) (capacity : ℕ) (s : EdgeState) (present : Payload) (items : List Item) → IsStable capacity s → s.out ≡ items → IsFirstGood (HasPayload test) items → IsTrue (test (edge_step capacity s (TakeOut present)).far.copy)
  taken-first test capacity s present [] h e g = absurd g
  taken-first test capacity s present (item.Noise ∷ items) h e g = absurd g.0
  taken-first test capacity s present (item.Frame f ∷ items) h e g = ap test (taken-copied capacity s present f items h e) ∙ g.0

  first-copied : (test : Payload → Bool) (capacity : ℕ) (s : EdgeState) (e : EdgeEvent) → IsStable capacity s → act_out e ≡ Takes → IsFirstGood (HasPayload test) s.out → IsTrue (test (edge_step capacity s e).far.copy)
  first-copied test capacity s SendOut h t g = absurd cc
  first-copied test capacity s SendBack h t g = absurd cc
  first-copied test capacity s (TakeOut present) h t g = taken-first test capacity s present s.out h refl g
  first-copied test capacity s (TakeBack present) h t g = absurd cc
  first-copied test capacity s (LoseOut i) h t g = absurd cc
  first-copied test capacity s (LoseBack i) h t g = absurd cc
  first-copied test capacity s Elsewhere h t g = absurd cc

  -- what holds of the staged payload throughout goes on holding of far's copy,
  copies-run : (test : Payload → Bool) (capacity : ℕ) (s : EdgeState) (es : List EdgeEvent) → IsEdgeInRange capacity s → IsStable capacity s →
      StagedPasses test capacity s es → IsTrue (test s.far.copy) → IsTrue (test (edge_run capacity s es).far.copy)
  copies-run test capacity s [] r h p b = b
  copies-run test capacity s (e ∷ es) r h p b =
      copies-run test capacity (edge_step capacity s e) es (range-event capacity s e r) (stable-event capacity s e r h) p.1
      (elim (copy-staged capacity s e r h) [ inl i ↦ (rw i b) | inr i ↦ (rw i p.0) ])

  -- and once an item that was sent since is taken it holds of the copy
  waiting-run : (test : Payload → Bool) (capacity i : ℕ) (s : EdgeState) (es : List EdgeEvent) (os : List Origin) → IsEdgeInRange capacity s → IsStable capacity s → StagedPasses test capacity s es →
      IsMarked (HasPayload test) os s.out → hands_over_sent capacity i (map act_out es) os ≡ true → IsTrue (test (edge_run capacity s es).far.copy)
  waiting-run test capacity i s [] os r h p m l = absurd cc
  waiting-run test capacity i s (e ∷ es) os r h p m l =
      let after = edge_step capacity s e in
      by_taken (takes_sent (act_out e) os) (hands_over_sent capacity (suc i) (map act_out es) (list_after capacity (Sent i) (act_out e) os)) l
      (λ t. let g = marked-taken (HasPayload test) (act_out e) os s.out t m in
      copies-run test capacity after es (range-event capacity s e r) (stable-event capacity s e r h) p.1 (first-copied test capacity s e h g.0 g.1))
      (λ t k. waiting-run test capacity (suc i) after es (list_after capacity (Sent i) (act_out e) os) (range-event capacity s e r) (stable-event capacity s e r h) p.1
      (subst (IsMarked (HasPayload test) (list_after capacity (Sent i) (act_out e) os)) (out-after capacity s e) (marked-after (HasPayload test) capacity i (item.Frame (frame_of s.near)) (act_out e) os s.out p.0 m)) k)

  pub sweep-copies : (test : Payload → Bool) (capacity : ℕ) (s : EdgeState) (es : List EdgeEvent) → IsEdgeInRange capacity s → IsStable capacity s → IsSweep capacity s es → StagedPasses test capacity s es →
      IsTrue (test (edge_run capacity s es).far.copy)
  sweep-copies test capacity s es r h w p = waiting-run test capacity 0 s es (map (λ x. Before) s.out) r h p (marked-start (HasPayload test) s.out) w.out

  staged-throughout : (test : Payload → Bool) (capacity : ℕ) (s : EdgeState) (es : List EdgeEvent) → AllByRecursion (PresentPasses test) es → IsTrue (test s.near.staged) → StagedPasses test capacity s es
  staged-throughout test capacity s [] p a = a
  staged-throughout test capacity s (e ∷ es) p a = (a, staged-throughout test capacity (edge_step capacity s e) es p.1 (staged-event test capacity s e p.0 a))

  pub sweep-refreshes : (test : Payload → Bool) (capacity : ℕ) (s : EdgeState) (es : List EdgeEvent) → IsEdgeInRange capacity s → IsStable capacity s → IsSweep capacity s es → AllByRecursion (PresentPasses test) es → IsTrue (test s.near.staged) →
      IsTrue (test (edge_run capacity s es).near.staged) × IsTrue (test (edge_run capacity s es).far.copy)
  sweep-refreshes test capacity s es r h w p a = (staged-run test capacity s es p a, sweep-copies test capacity s es r h w (staged-throughout test capacity s es p a))

  -- ---- three sweeps

  -- two sweeps, in which the staged payload becomes one that was handed in; one, in which it comes
  -- to far's copy; and what follows
  from_parts : (test : Payload → Bool) (capacity : ℕ) (s : EdgeState) (one two three rest : List EdgeEvent) → IsEdgeInRange capacity s → IsStable capacity s →
      IsSweep capacity s one → IsSweep capacity (edge_run capacity s one) two → IsSweep capacity (edge_run capacity (edge_run capacity s one) two) three →
      AllByRecursion (PresentPasses test) (one ++ two) → AllByRecursion (PresentPasses test) three → AllByRecursion (PresentPasses test) rest →
      IsTrue (test (edge_run capacity (edge_run capacity (edge_run capacity s (one ++ two)) three) rest).near.staged) × IsTrue (test (edge_run capacity (edge_run capacity (edge_run capacity s (one ++ two)) three) rest).far.copy)
  from_parts test capacity s one two three rest r h a b c p q k =
      let mid = edge_run capacity s (one ++ two) in
      let rm = range-run capacity s (one ++ two) r in
      let hm = stays-in_runs stable-event capacity s (one ++ two) r h in
      let w : IsSweep capacity mid three = subst (λ v. IsSweep capacity v three) (sym (run-append capacity s one two)) c in
      let staged = moved-run test capacity s (one ++ two) p (two-sweeps-move capacity s one two a b) in
      let fresh = sweep-refreshes test capacity mid three rm hm w q staged in
      payloads-run test capacity (edge_run capacity mid three) rest (range-run capacity mid three rm) (stays-in_runs stable-event capacity mid three rm hm) k fresh.0 fresh.1

  pub three-sweeps-refresh : (test : Payload → Bool) (capacity : ℕ) (s : EdgeState) (es : List EdgeEvent) → IsEdgeInRange capacity s → IsStable capacity s → Sweeps capacity s 3 es → AllByRecursion (PresentPasses test) es →
      IsTrue (test (edge_run capacity s es).near.staged) × IsTrue (test (edge_run capacity s es).far.copy)
  three-sweeps-refresh test capacity s es r h (one, rest1, e1, a, (two, rest2, e2, b, (three, rest3, e3, c, u))) p =
      let joined : es ≡ (one ++ two) ++ (three ++ rest3) = e1 ∙ (ap (λ l. one ++ l) (e2 ∙ ap (λ l. two ++ l) e3) ∙ sym (append_assoc one two (three ++ rest3))) in
      let ps : AllByRecursion (PresentPasses test) ((one ++ two) ++ (three ++ rest3)) = subst (AllByRecursion (PresentPasses test)) joined p in
      let parts = All-append (PresentPasses test) (one ++ two) (three ++ rest3) ps in
      let last = All-append (PresentPasses test) three rest3 parts.1 in
      let done = from_parts test capacity s one two three rest3 r h a b c parts.0 last.0 last.1 in
      let run : edge_run capacity (edge_run capacity (edge_run capacity s (one ++ two)) three) rest3 ≡ edge_run capacity s es =
      sym (ap (edge_run capacity s) joined ∙ (run-append capacity s (one ++ two) (three ++ rest3) ∙ run-append capacity (edge_run capacity s (one ++ two)) three rest3)) in
      subst (λ v. IsTrue (test v.near.staged) × IsTrue (test v.far.copy)) run done
