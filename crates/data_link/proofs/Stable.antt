-- A stable link stays stable, and a link whose number moved often enough is stable
use Rattle.std.proofs.Common.{◌≡◌, ◌≢◌, ℕ, ◌+◌, ◌*◌, ◌%◌, ◌<◌, ◌≤◌, ◌⊎◌, inl, inr, zero, suc, List, [], ◌∷◌, length, take, drop, refl, sym, ◌∙◌, ap, subst, arith, add-one}
use Rattle.std.proofs.Math.Nat.{mod-eq_of_lt, mod_self}
use Rattle.std.proofs.lemmas.Bool.{cases_lt}
use Rattle.std.proofs.lemmas.Grind.{common_steps}
use Rattle.link_model.specs.topology.declared.frame.Payload.{Payload}
use Rattle.k_state.specs.Machine.{root_moved}
use Rattle.k_state.specs.Ring.{HasFront, IsFresh, Step, moves_until}
use Rattle.k_state.specs.Laws.{FreshHasFront, FrontStaysOrTurnsGood, GoodHasFront, GoodStays, MovesFromFirst, SomeValueIsFresh}
use Rattle.data_link.specs.Laws.{StableStays, StableOutlastsRuns}
use Rattle.data_link.specs.Port.{PortState}
use Rattle.data_link.specs.Edge.{EdgeState, EdgeEvent, IsEdgeInRange, IsStable, modulus_of, edge_step, edge_run, moves, moves_in, link_ring, payload_under}
use Rattle.data_link.proofs.LinkSteps.{event-step}
use Rattle.data_link.proofs.UnderWay.{OfAll, near-stays, all-stays, all-weaker, all-both, all-ring}
use Rattle.data_link.proofs.EdgeRanges.{range-event, range-run, ring-of_edge, ring-length}

-- ---- payloads under numbers

abbrev pub UnderNumber : PortState → ℕ → Payload → Type 0
UnderNumber p number payload = number ≡ p.seq → payload ≡ p.staged

-- the frames under the number carry what is staged, and their numbers stand in front
abbrev pub IsReady : EdgeState → Type 0
IsReady s = HasFront s.near.seq (link_ring s) × OfAll (UnderNumber s.near) s

abbrev pub Carries : PortState → Payload → ℕ → Payload → Type 0
Carries p other number payload = payload ≡ payload_under p other number

under-same : (p p' : PortState) → p'.seq ≡ p.seq → p'.staged ≡ p.staged → (n : ℕ) (x : Payload) → UnderNumber p n x → UnderNumber p' n x
under-same p p' e i n x h = λ j. h (j ∙ e) ∙ sym i

carries-same : (p p' : PortState) (other : Payload) → p'.seq ≡ p.seq → p'.staged ≡ p.staged → (n : ℕ) (x : Payload) → Carries p other n x → Carries p' other n x
carries-same p p' other e i n x h = rw (e, i) h

carries-under : (p : PortState) (other : Payload) (n : ℕ) (x : Payload) → Carries p other n x → UnderNumber p n x
carries-under p other n x h = λ j. grind (arith, common_steps)

carries-old : (p : PortState) (other : Payload) (n : ℕ) (x : Payload) → n ≢ p.seq → x ≡ other → Carries p other n x
carries-old p other n x ne e = grind (arith, common_steps)

pub seq-moves : (capacity : ℕ) (s : EdgeState) (e : EdgeEvent) → moves s e ≡ 1 → (edge_step capacity s e).near.seq ≡ root_moved s.near.seq (modulus_of capacity)
seq-moves capacity s e i = grind (arith, common_steps)

-- if there are two numbers or more, the next one is another
next-differs : (q x : ℕ) → 1 < q → x < q → root_moved x q ≢ x
next-differs q x two below same = elim (cases_lt (x + 1) q) [
  | inl within ↦ omega (arith, same, mod-eq_of_lt within)
  | inr past ↦ (let last : x + 1 ≡ q = omega arith in let zero : (x + 1) % q ≡ 0 = ap (λ n. n % q) last ∙ mod_self q in omega (arith, same, zero, last))
]

-- ---- sums along a run

-- whether the number moves at event k
abbrev pub moved_at : ℕ → EdgeState → List EdgeEvent → ℕ → ℕ
moved_at capacity s [] k = 0
moved_at capacity s (e ∷ es) zero = moves s e
moved_at capacity s (e ∷ es) (suc k) = moved_at capacity (edge_step capacity s e) es k

none_left : (capacity : ℕ) (s : EdgeState) (k : ℕ) → moves_until (moved_at capacity s []) k ≡ 0
none_left capacity s zero = refl
none_left capacity s (suc k) = omega (arith, none_left capacity s k)

moved-until : MovesFromFirst → (capacity : ℕ) (s : EdgeState) (es : List EdgeEvent) → moves_until (moved_at capacity s es) (length es) ≡ moves_in capacity s es
moved-until first_move capacity s [] = refl
moved-until first_move capacity s (e ∷ es) =
    first_move (moved_at capacity s (e ∷ es)) (length es) ∙ ap (λ n. moves s e + n) (moved-until first_move capacity (edge_step capacity s e) es)

moved-split : MovesFromFirst → (capacity : ℕ) (s : EdgeState) (es : List EdgeEvent) (k : ℕ) →
    moves_until (moved_at capacity s es) k + moves_in capacity (edge_run capacity s (take k es)) (drop k es) ≡ moves_in capacity s es
moved-split first_move capacity s es zero = omega arith
moved-split first_move capacity s [] (suc k) = omega (arith, none_left capacity s k)
moved-split first_move capacity s (e ∷ es) (suc k) =
    omega (arith, first_move (moved_at capacity s (e ∷ es)) k, moved-split first_move capacity (edge_step capacity s e) es k)

run-split : (capacity : ℕ) (s : EdgeState) (es : List EdgeEvent) (k : ℕ) → edge_run capacity (edge_run capacity s (take k es)) (drop k es) ≡ edge_run capacity s es
run-split capacity s es zero = refl
run-split capacity s [] (suc k) = refl
run-split capacity s (e ∷ es) (suc k) = run-split capacity (edge_step capacity s e) es k

run-steps : (capacity : ℕ) (s : EdgeState) (es : List EdgeEvent) (k : ℕ) → k < length es →
    Step (modulus_of capacity) (moved_at capacity s es k) (link_ring (edge_run capacity s (take k es))) (link_ring (edge_run capacity s (take (suc k) es)))
run-steps capacity s [] k l = absurd (omega arith)
run-steps capacity s (e ∷ es) zero l = event-step (modulus_of capacity) capacity s e
run-steps capacity s (e ∷ es) (suc k) l = run-steps capacity (edge_step capacity s e) es k (omega arith)

-- what every event keeps, every run keeps
pub stays-in_runs : StableStays → StableOutlastsRuns
stays-in_runs stays capacity s [] r h = h
stays-in_runs stays capacity s (e ∷ es) r h = stays-in_runs stays capacity (edge_step capacity s e) es (range-event capacity s e r) (stays capacity s e r h)

-- ---- from the laws of the copying ring

module _ (stays : GoodStays) (good_front : GoodHasFront) (fresh_front : FreshHasFront) (front : FrontStaysOrTurnsGood) (some_fresh : SomeValueIsFresh) where
  pub ready-event : (capacity : ℕ) (s : EdgeState) (e : EdgeEvent) → IsEdgeInRange capacity s → IsReady s →
      ((moves s e ≡ 0) × IsReady (edge_step capacity s e)) ⊎ ((moves s e ≡ 1) × IsStable capacity (edge_step capacity s e))
  ready-event capacity s e r h =
      let after = edge_step capacity s e in
      let carried = all-stays (UnderNumber s.near) capacity s e (λ j. refl) h.1 in
      elim (front (modulus_of capacity) s.near.seq (moves s e) (link_ring s) (link_ring after) (event-step (modulus_of capacity) capacity s e) h.0) [
        | inl v ↦ (let n = near-stays capacity s e v.0 in
            inl (v.0, (subst (λ a. HasFront a (link_ring after)) (sym n.0) v.1, all-weaker (UnderNumber s.near) (UnderNumber after.near) (under-same s.near after.near n.0 n.1) after carried)))
        | inr v ↦ (let all : OfAll (Carries after.near s.near.staged) after = all-weaker (λ n x. UnderNumber s.near n x × (n ≡ s.near.seq)) (Carries after.near s.near.staged)
            (λ n x k. carries-old after.near s.near.staged n x
            (λ j. next-differs (modulus_of capacity) s.near.seq (omega arith) r.near.0 (sym (seq-moves capacity s e v.0) ∙ (sym j ∙ k.1)))
            (k.0 k.1))
            after (all-both (UnderNumber s.near) (λ n x. n ≡ s.near.seq) after carried (all-ring (λ n. n ≡ s.near.seq) after v.2)) in
            inr (v.0, record { good = v.1; other = s.near.staged; out = all.out; copied = all.accepted }))
      ]

  pub stable-event : (capacity : ℕ) (s : EdgeState) (e : EdgeEvent) → IsEdgeInRange capacity s → IsStable capacity s → IsStable capacity (edge_step capacity s e)
  stable-event capacity s e r h =
      let after = edge_step capacity s e in
      let carries : OfAll (Carries s.near h.other) s = record { out = h.out; accepted = h.copied } in
      let ready : IsReady s = (good_front (modulus_of capacity) (link_ring s) (omega arith) (ring-of_edge capacity s r) h.good, all-weaker (Carries s.near h.other) (UnderNumber s.near) (carries-under s.near h.other) s carries) in
      elim (ready-event capacity s e r ready) [
        | inl v ↦ (let n = near-stays capacity s e v.0 in
            let all : OfAll (Carries after.near h.other) after = all-weaker (Carries s.near h.other) (Carries after.near h.other) (carries-same s.near after.near h.other n.0 n.1) after
            (all-stays (Carries s.near h.other) capacity s e (grind (arith, common_steps)) carries) in
            record { good = stays (modulus_of capacity) (moves s e) (link_ring s) (link_ring after) (event-step (modulus_of capacity) capacity s e) h.good; other = h.other; out = all.out; copied = all.accepted })
        | inr v ↦ v.1
      ]

  pub stable-run : StableOutlastsRuns
  stable-run = stays-in_runs stable-event

  pub ready-run : (capacity : ℕ) (s : EdgeState) (es : List EdgeEvent) → IsEdgeInRange capacity s → IsReady s → 0 < moves_in capacity s es → IsStable capacity (edge_run capacity s es)
  ready-run capacity s [] r h l = absurd (omega arith)
  ready-run capacity s (e ∷ es) r h l = elim (ready-event capacity s e r h) [
    | inl v ↦ ready-run capacity (edge_step capacity s e) es (range-event capacity s e r) v.1 (omega (arith, l, v.0))
    | inr v ↦ stable-run capacity (edge_step capacity s e) es (range-event capacity s e r) v.1
  ]

  -- a number that stands nowhere else: no frame carries it
  pub fresh-ready : (s : EdgeState) → IsFresh (link_ring s) → IsReady s
  fresh-ready s f = (fresh_front (link_ring s) f, all-weaker (λ n x. n ≢ s.near.seq) (UnderNumber s.near) (λ n x ne j. absurd (ne j)) s (all-ring (λ n. n ≢ s.near.seq) s f))

  from_fresh : (capacity : ℕ) (s mid : EdgeState) (es rest : List EdgeEvent) → edge_run capacity mid rest ≡ edge_run capacity s es → IsEdgeInRange capacity mid → IsFresh (link_ring mid)
      → 0 < moves_in capacity mid rest → IsStable capacity (edge_run capacity s es)
  from_fresh capacity s mid es rest e r f l = subst (IsStable capacity) e (ready-run capacity mid rest r (fresh-ready mid f) l)

  pub stable-after_moves : MovesFromFirst → (capacity : ℕ) (s : EdgeState) (es : List EdgeEvent) → IsEdgeInRange capacity s → 2 * capacity + 2 ≤ moves_in capacity s es → IsStable capacity (edge_run capacity s es)
  stable-after_moves first_move capacity s es r l =
      let short = ring-length capacity s r in
      let f = some_fresh (modulus_of capacity) (length es) (λ k. link_ring (edge_run capacity s (take k es))) (moved_at capacity s es)
      (λ k i. rw add-one (run-steps capacity s es k i)) (ring-of_edge capacity s r) (omega (arith, short)) (omega (arith, short, l, moved-until first_move capacity s es)) in
      from_fresh capacity s (edge_run capacity s (take f.0 es)) es (drop f.0 es) (run-split capacity s es f.0) (range-run capacity s (take f.0 es) r) f.2.fresh
      (omega (arith, short, l, f.2.early, moved-split first_move capacity s es f.0))
