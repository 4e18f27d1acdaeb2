-- A ticket that waits is served. Within 8(n - 1) sweeps a machine of its node moves. Each move
-- except the first ends a loan of its desk, and each loan takes the first of the list. So the
-- number of moves that may still come is the ticket's place, or one more if the desk is not ready
-- to lend.
use Rattle.std.proofs.Common.{◌≡◌, ◌≢◌, ℕ, zero, suc, ◌+◌, ◌*◌, ◌-◌, ◌<◌, ◌≤◌, ◌⊎◌, inl, inr, Bool, true, false, ◌==◌, ◌&&◌, ◌||◌, List, [], ◌∷◌, ◌++◌, length, Option, Some, None, refl, sym, ◌∙◌, ap, subst, arith}
use Rattle.std.specs.Prelude.{is_none, is_some, not, if◌then◌else◌}
use Rattle.std.proofs.lemmas.Bool.{cases_Bool, cases_eq, false≢true, cond-true, cond-false, eq-eqb, ne_eqb, or_left, or_right, or_cases, or_parts}
use Rattle.std.proofs.lemmas.Bool.Decides.{nat_tests}
use Rattle.topology.specs.At.{at}
use Rattle.tree_convergence.specs.link_model.declared.item.Item.{Item}
use Rattle.tree_convergence.specs.link_model.declared.item.Item.TheVariants.{Frame, Noise}
use Rattle.tree_convergence.specs.lock_desk.Desk.{DeskState, is_in, is_ticket, waits, borrows, without, asked, ended, after_leave, desk_ticked}
use Rattle.tree_convergence.specs.lock_desk.Act.{act_between, desk_act}
use Rattle.tree_convergence.specs.lock_desk.Laws.{IsTurn}
use Rattle.tree_convergence.specs.lock_desk.declared.act.DeskAct.TheVariants.{Lost}
use Rattle.run_model.specs.node_core.State.{LocalState}
use Rattle.run_model.specs.node_core.Machines.{is_node_privileged}
use Rattle.run_model.specs.node_core.Step.{ticked, recomputed}
use Rattle.run_model.specs.World.{World, site}
use Rattle.run_model.specs.Step.{refusal, step, changed, sent, handed_over}
use Rattle.run_model.specs.Run.{run, is_damage, IsUndamaged}
use Rattle.run_model.specs.Sweep.{Sweeps}
use Rattle.run_model.specs.Ticks.{IsTicking}
use Rattle.run_model.specs.declared.event.Event.{Event}
use Rattle.run_model.specs.declared.event.EventFault.{EventFault}
use Rattle.run_model.proofs.Along.{undamaged-front}
use Rattle.run_model.specs.declared.event.Event.TheVariants.{Send, Take, Lose, Tick, Ask, Leave, Damage}
use Rattle.convergence.specs.Ring.{IsTokenRingGood}
use Rattle.convergence.specs.Settled.{IsSettled}
use Rattle.convergence.specs.Service.{IsAtPlace, is_lent_once, is_leave, gives_up, WaitingAreServed}
use Rattle.convergence.specs.Below.{Below}
use Rattle.convergence.proofs.Whole.{parted, other-number}
use Rattle.convergence.proofs.Passes.{moves-pass_served, moves-clear}

-- ---- what an event makes of a desk

take-desk : (w : World) (a c v : ℕ) (items : List Item) → ((handed_over w a c items).node v).desk ≡ (w.node v).desk
take-desk w a c v [] = refl
take-desk w a c v (Noise ∷ items) = grind (arith, nat_tests)
take-desk w a c v (Frame f ∷ items) = grind (arith, nat_tests)

send-desk : (w : World) (a c v : ℕ) → ((sent w a c).node v).desk ≡ (w.node v).desk
send-desk w a c v = grind (arith, nat_tests)

at_same : (f : ℕ → LocalState) (a v : ℕ) (s : LocalState) → v ≡ a → at f a s v ≡ s
at_same f a v s e = cond-true (v == a) s (f v) (eq-eqb v a e)

at_other : (f : ℕ → LocalState) (a v : ℕ) (s : LocalState) → (v ≡ a → ⊥) → at f a s v ≡ f v
at_other f a v s ne = cond-false (v == a) s (f v) (ne_eqb v a ne)

not_refused : (o : Option EventFault) → is_some o ≡ false → is_none o ≡ true
not_refused None h = refl
not_refused (Some f) h = absurd (false≢true (sym h))

abbrev desk : World → ℕ → DeskState
desk w v = (w.node v).desk

-- what holds for the desk, and still holds after an ask, a leave or a tick, holds after the event
module _ (P : DeskState → Type 0) (w : World) (v : ℕ) (stays : P (desk w v)) (asks : (s : ℕ) → P (asked s (desk w v)))
    (ticks : (privileged : Bool) → P (desk_ticked (site w v).lease privileged (desk w v))) where
  changed-desk : (e : Event) → is_damage w e ≡ false → is_some (refusal w e) ≡ false → ((s : ℕ) → e ≡ Leave v s → P (after_leave s (desk w v))) → P (desk (changed w e) v)
  changed-desk (Send a c) d n leaves = subst P (sym (send-desk w a c v)) stays
  changed-desk (Take a c) d n leaves = subst P (sym (take-desk w a c v (w.link a c))) stays
  changed-desk (Lose a c i) d n leaves = stays
  changed-desk (Tick a) d n leaves = elim (cases_eq v a) [
    | inl e ↦ (let here : (changed w (Tick a)).node v ≡ ticked (site w v) (w.node v) =
        at_same w.node a v (ticked (site w a) (w.node a)) e ∙ ap (λ x. ticked (site w x) (w.node x)) (sym e) in
        subst (λ (s : LocalState). P s.desk) (sym here) (ticks (is_node_privileged (site w v) (recomputed (site w v) (w.node v)))))
    | inr ne ↦ subst (λ (s : LocalState). P s.desk) (sym (at_other w.node a v (ticked (site w a) (w.node a)) ne)) stays
  ]
  changed-desk (Ask a s) d n leaves =
      let new = record (w.node a) { desk = asked s (desk w a) } in
      elim (cases_eq v a) [
        | inl e ↦ subst (λ (x : LocalState). P x.desk) (sym (at_same w.node a v new e)) (subst (λ x. P (asked s (desk w x))) e (asks s))
        | inr ne ↦ subst (λ (x : LocalState). P x.desk) (sym (at_other w.node a v new ne)) stays
      ]
  changed-desk (Leave a s) d n leaves =
      let new = record (w.node a) { desk = after_leave s (desk w a) } in
      elim (cases_eq v a) [
        | inl e ↦ subst (λ (x : LocalState). P x.desk) (sym (at_same w.node a v new e))
            (subst (λ x. P (after_leave s (desk w x))) e (leaves s (ap (λ x. Leave x s) (sym e))))
        | inr ne ↦ subst (λ (x : LocalState). P x.desk) (sym (at_other w.node a v new ne)) stays
      ]
  changed-desk (Damage h) d n leaves = absurd (false≢true (sym d ∙ not_refused (refusal w (Damage h)) n))

  desk-event : (e : Event) → is_damage w e ≡ false → ((s : ℕ) → e ≡ Leave v s → P (after_leave s (desk w v))) → P (desk (step w e) v)
  desk-event e d leaves = elim (cases_Bool (is_some (refusal w e))) [
    | inl y ↦ subst (λ x. P (desk x v)) (sym (cond-true (is_some (refusal w e)) w (changed w e) y)) stays
    | inr n ↦ subst (λ x. P (desk x v)) (sym (cond-false (is_some (refusal w e)) w (changed w e) n)) (changed-desk e d n leaves)
  ]

-- ---- places

asked-at : (t p u : ℕ) (xs : List ℕ) → IsAtPlace t p xs → IsAtPlace t p (xs ++ u ∷ [])
asked-at t p u [] h = absurd h
asked-at t zero u (x ∷ xs) h = h
asked-at t (suc p) u (x ∷ xs) h = asked-at t p u xs h

-- the ticket stands at that place or before it
pub record IsUpTo (t p : ℕ) (xs : List ℕ) : Type 0 where
  pub place : ℕ
  pub at : IsAtPlace t place xs
  pub most : place ≤ p

-- what holds for both alternatives holds for the choice
by_if : {X : Type 0} (P : X → Type 0) (c : Bool) (x y : X) → (c ≡ true → P x) → (c ≡ false → P y) → P (if c then x else y)
by_if P true x y f g = f refl
by_if P false x y f g = g refl

unlike : (x u t : ℕ) → x ≡ t → u ≢ t → not (x == u) ≡ true
unlike x u t e ne = grind (arith, nat_tests)

left-at : (t u : ℕ) → u ≢ t → (p : ℕ) (xs : List ℕ) → IsAtPlace t p xs → IsUpTo t p (without u xs)
left-at t u ne p [] h = absurd h
left-at t u ne zero (x ∷ xs) h = by_if (IsUpTo t zero) (not (x == u)) (x ∷ without u xs) (without u xs)
    (λ y. record { place = 0; at = h; most = omega arith }) (λ n. absurd (false≢true (sym n ∙ unlike x u t h ne)))
left-at t u ne (suc p) (x ∷ xs) h =
    let r = left-at t u ne p xs h in
    by_if (IsUpTo t (suc p)) (not (x == u)) (x ∷ without u xs) (without u xs)
    (λ y. record { place = suc r.place; at = r.at; most = omega (arith, r.most) }) (λ n. record { place = r.place; at = r.at; most = omega (arith, r.most) })

waits-at : (t p : ℕ) (xs : List ℕ) → IsAtPlace t p xs → is_in xs t ≡ true
waits-at t p [] h = absurd h
waits-at t zero (x ∷ xs) h = or_left (x == t) (is_in xs t) (eq-eqb x t h)
waits-at t (suc p) (x ∷ xs) h = or_right (x == t) (is_in xs t) (waits-at t p xs h)

some-at : (t p : ℕ) (xs : List ℕ) → IsAtPlace t p xs → 0 < length xs
some-at t p [] h = absurd h
some-at t p (x ∷ xs) h = omega arith

-- ---- how many moves may come before the ticket gets the lock: as many as its place, and one more
-- if the desk is not ready to lend

pub record Stands (t k : ℕ) (tickets : List ℕ) (lent : Option ℕ) (served : Bool) : Type 0 where
  pub place : ℕ
  pub at : IsAtPlace t place tickets
  pub most : place ≤ k
  pub ready : (place < k) ⊎ ((is_some lent ≡ false) × (served ≡ false))

abbrev StandsAt : ℕ → ℕ → DeskState → Type 0
StandsAt t k d = Stands t k d.waiting d.lent d.served

asked-stands : (t k u : ℕ) (d : DeskState) → StandsAt t k d → StandsAt t k (asked u d)
asked-stands t k u d s = record { place = s.place; at = asked-at t s.place u d.waiting s.at; most = s.most; ready = s.ready }

is-lent : (o : Option ℕ) (u : ℕ) → is_ticket o u ≡ true → is_some o ≡ true
is-lent None u h = absurd (false≢true h)
is-lent (Some x) u h = refl

left-stands : (t k u : ℕ) (d : DeskState) → u ≢ t → StandsAt t k d → StandsAt t k (after_leave u d)
left-stands t k u d ne s =
    let r = left-at t u ne s.place d.waiting s.at in
    by_if (StandsAt t k) (waits d u) (record d { waiting = without u d.waiting }) (if borrows d u then ended d else d)
    (λ y. record { place = r.place; at = r.at; most = omega (arith, r.most, s.most); ready = elim s.ready [ inl l ↦ inl (omega (arith, r.most, l)) | inr q ↦ inr q ] })
    (λ n. by_if (StandsAt t k) (borrows d u) (ended d) d
    (λ y. record { place = s.place; at = s.at; most = s.most; ready = elim s.ready [ inl l ↦ inl l | inr q ↦ absurd (false≢true (sym q.0 ∙ is-lent d.lent u y)) ] })
    (λ m. s))

granted : (t k x p : ℕ) (after : List ℕ) (lent : Option ℕ) (served : Bool) → IsAtPlace t p (x ∷ after) → p ≤ k → (x == t ≡ true) ⊎ Stands t k after lent served
granted t k x zero after lent served h l = inl (eq-eqb x t h)
granted t k x (suc p) after lent served h l = inr (record { place = p; at = h; most = omega (arith, l); ready = inl (omega (arith, l)) })

turned : (t k : ℕ) (before after : List ℕ) (old new : Option ℕ) (was served : Bool) → IsTurn before after (act_between old new) → (is_some new ≡ false → served ≡ false)
    → Stands t k before old was → (is_ticket new t ≡ true) ⊎ Stands t k after new served
turned t k before after None None was served e c s = inr (record {
  place = s.place;
  at = subst (IsAtPlace t s.place) e s.at;
  most = s.most;
  ready = elim s.ready [ inl l ↦ inl l | inr q ↦ inr (refl, c refl) ];
})
turned t k before after None (Some x) was served e c s = granted t k x s.place after (Some x) served (subst (IsAtPlace t s.place) e s.at) s.most
turned t k before after (Some y) None was served e c s = inr (record {
  place = s.place;
  at = subst (IsAtPlace t s.place) e s.at;
  most = s.most;
  ready = elim s.ready [ inl l ↦ inl l | inr q ↦ absurd (false≢true (sym q.0)) ];
})
turned t k before after (Some y) (Some x) was served e c s = inr (record {
  place = s.place;
  at = subst (IsAtPlace t s.place) e s.at;
  most = s.most;
  ready = elim s.ready [ inl l ↦ inl l | inr q ↦ absurd (false≢true (sym q.0)) ];
})

-- a tick after which the desk lends to nobody leaves the list as it is; and before a tick that ends
-- a loan there was one
same-list : (before after : List ℕ) (old new : Option ℕ) → is_some new ≡ false → IsTurn before after (act_between old new) → before ≡ after
same-list before after None None h e = e
same-list before after (Some y) None h e = e
same-list before after old (Some x) h e = absurd (false≢true (sym h))

had-loan : (old new : Option ℕ) (x : ℕ) → act_between old new ≡ Lost x → is_some old ≡ true
had-loan old new x h = grind arith

-- ---- moments of a run

lent-now : (w : World) (es : List Event) (v t : ℕ) → borrows (desk w v) t ≡ true → is_lent_once w es v t ≡ true
lent-now w [] v t h = h
lent-now w (e ∷ es) v t h = or_left (borrows (desk w v) t) (is_lent_once (step w e) es v t) h

lent-early : (w : World) (xs ys : List Event) (v t : ℕ) → is_lent_once w xs v t ≡ true → is_lent_once w (xs ++ ys) v t ≡ true
lent-early w [] ys v t h = lent-now w ys v t h
lent-early w (e ∷ xs) ys v t h = elim (or_cases (borrows (desk w v) t) (is_lent_once (step w e) xs v t) h) [
  | inl now ↦ or_left (borrows (desk w v) t) (is_lent_once (step w e) (xs ++ ys) v t) now
  | inr later ↦ or_right (borrows (desk w v) t) (is_lent_once (step w e) (xs ++ ys) v t) (lent-early (step w e) xs ys v t later)
]

lent-late : (w : World) (xs ys : List Event) (v t : ℕ) → is_lent_once (run w xs) ys v t ≡ true → is_lent_once w (xs ++ ys) v t ≡ true
lent-late w [] ys v t h = h
lent-late w (e ∷ xs) ys v t h = or_right (borrows (desk w v) t) (is_lent_once (step w e) (xs ++ ys) v t) (lent-late (step w e) xs ys v t h)

abbrev leaves_now : World → Event → ℕ → ℕ → Bool
leaves_now w e v t = is_leave e v t && waits (desk w v) t

stays-in : (w : World) (xs ys : List Event) (v t : ℕ) → gives_up w (xs ++ ys) v t ≡ false → (gives_up w xs v t ≡ false) × (gives_up (run w xs) ys v t ≡ false)
stays-in w [] ys v t h = (refl, h)
stays-in w (e ∷ xs) ys v t h =
    let q = or_parts (leaves_now w e v t) (gives_up (step w e) (xs ++ ys) v t) h in
    let r = stays-in (step w e) xs ys v t q.1 in
    (neither (leaves_now w e v t) (gives_up (step w e) xs v t) q.0 r.0, r.1)
  where
    neither : (x y : Bool) → x ≡ false → y ≡ false → x || y ≡ false
    neither false y h k = k
    neither true y h k = absurd (false≢true (sym h))

leaves-it : (v u t : ℕ) (there : Bool) → u ≡ t → there ≡ true → ((v == v) && (u == t)) && there ≡ true
leaves-it v u t there e h = grind (arith, nat_tests)

module _ (b : Below) where
  stands-event : (w : World) (e : Event) (v t k : ℕ) → is_damage w e ≡ false → leaves_now w e v t ≡ false → StandsAt t k (desk w v)
      → (borrows (desk (step w e) v) t ≡ true) ⊎ StandsAt t k (desk (step w e) v)
  stands-event w e v t k d g s =
      desk-event (λ x. (borrows x t ≡ true) ⊎ StandsAt t k x) w v (inr s) (λ u. inr (asked-stands t k u (desk w v) s))
      (λ privileged. ticks privileged) e d (λ u is. inr (left-stands t k u (desk w v) (other u is) s))
    where
      ticks : (privileged : Bool) → (borrows (desk_ticked (site w v).lease privileged (desk w v)) t ≡ true) ⊎ StandsAt t k (desk_ticked (site w v).lease privileged (desk w v))
      ticks privileged =
          let new = desk_ticked (site w v).lease privileged (desk w v) in
          turned t k (desk w v).waiting new.waiting (desk w v).lent new.lent (desk w v).served new.served (b.in_turn (site w v).lease privileged (desk w v))
          (b.clears (site w v).lease privileged (desk w v)) s

      other : (u : ℕ) → e ≡ Leave v u → u ≢ t
      other u is same = false≢true (sym g ∙ (ap (λ x. leaves_now w x v t) is ∙ leaves-it v u t (waits (desk w v) t) same (waits-at t s.place (desk w v).waiting s.at)))

  along : (w : World) (es : List Event) (v t k : ℕ) → IsUndamaged w es → gives_up w es v t ≡ false → StandsAt t k (desk w v)
      → (is_lent_once w es v t ≡ true) ⊎ StandsAt t k (desk (run w es) v)
  along w [] v t k u g s = inr s
  along w (e ∷ es) v t k u g s =
      let d = undamaged-front w e es u in
      let q = or_parts (leaves_now w e v t) (gives_up (step w e) es v t) g in
      elim (stands-event w e v t k d.0 q.0 s) [
        | inl lent ↦ inl (or_right (borrows (desk w v) t) (is_lent_once (step w e) es v t) (lent-now (step w e) es v t lent))
        | inr next ↦ elim (along (step w e) es v t k d.1 q.1 next) [
          | inl later ↦ inl (or_right (borrows (desk w v) t) (is_lent_once (step w e) es v t) later)
          | inr last ↦ inr last
        ]
      ]

  -- if a machine moves, the desk was not ready and then is: so one move fewer may come
  pub record OneFewer (t k : ℕ) (d : DeskState) : Type 0 where
    pub fewer : ℕ
    pub is : k ≡ suc fewer
    pub stands : StandsAt t fewer d

  passed : (w : World) (e : Event) (v m t k : ℕ) → is_damage w e ≡ false → ((step w e).node v).value m ≢ (w.node v).value m → StandsAt t k (desk w v)
      → OneFewer t k (desk (step w e) v)
  passed w e v m t k d ne s = elim s.ready [
    | inl l ↦ fewer k l
    | inr q ↦ elim pass [
      | inl was ↦ absurd (false≢true (sym q.1 ∙ was))
      | inr ended ↦ absurd (false≢true (sym q.0 ∙ had-loan (desk w v).lent (desk (step w e) v).lent ended.0 ended.1))
    ]
  ]
    where
      pass : ((desk w v).served ≡ true) ⊎ ((ticket : ℕ) × (desk_act (desk w v) (desk (step w e) v) ≡ Lost ticket))
      pass = moves-pass_served b w e v m d ne (some-at t s.place (desk w v).waiting s.at)

      clear : (is_some (desk (step w e) v).lent ≡ false) × ((desk (step w e) v).served ≡ false)
      clear = moves-clear b w e v m d ne

      ticks : IsTicking w (step w e) v
      ticks = elim (b.moves w e v d) [ inl q ↦ absurd (ne (ap (λ f. f m) q.values)) | inr k ↦ k ]

      list : (desk w v).waiting ≡ (desk (step w e) v).waiting
      list =
          let lease = (site w v).lease in
          let privileged = is_node_privileged (site w v) (recomputed (site w v) (w.node v)) in
          let is : desk (step w e) v ≡ desk_ticked lease privileged (desk w v) = ap (λ (x : LocalState). x.desk) ticks in
          let turn = subst (λ (x : DeskState). IsTurn (desk w v).waiting x.waiting (act_between (desk w v).lent x.lent)) (sym is) (b.in_turn lease privileged (desk w v)) in
          same-list (desk w v).waiting (desk (step w e) v).waiting (desk w v).lent (desk (step w e) v).lent clear.0 turn

      fewer : (k : ℕ) → s.place < k → OneFewer t k (desk (step w e) v)
      fewer zero l = absurd (omega (arith, l))
      fewer (suc j) l = record {
        fewer = j;
        is = refl;
        stands = record { place = s.place; at = subst (IsAtPlace t s.place) list s.at; most = omega (arith, l); ready = inr (clear.0, clear.1) };
      }

  -- in each round the ticket gets the lock, or one move fewer may come
  round-over : (w : World) (es : List Event) (v t k : ℕ) → IsSettled w → IsUndamaged w es → IsTokenRingGood w → v < w.net.nodes → gives_up w es v t ≡ false
      → StandsAt t k (desk w v) → Sweeps w (8 * (w.net.nodes - 1)) es → (is_lent_once w es v t ≡ true) ⊎ OneFewer t k (desk (run w es) v)
  round-over w es v t k s u g h stays st sweeps =
      let m = b.machines w es v s u g h sweeps in
      let p = parted b w es m.before (m.event ∷ m.after) m.parts u in
      let w1 = run w m.before in
      let d = undamaged-front w1 m.event m.after p.late in
      let q = stays-in w m.before (m.event ∷ m.after) v t (subst (λ xs. gives_up w xs v t ≡ false) m.parts stays) in
      let r = or_parts (leaves_now w1 m.event v t) (gives_up (step w1 m.event) m.after v t) q.1 in
      elim (along w m.before v t k p.early q.0 st) [
        | inl lent ↦ inl (subst (λ xs. is_lent_once w xs v t ≡ true) (sym m.parts) (lent-early w m.before (m.event ∷ m.after) v t lent))
        | inr here ↦ (let one = passed w1 m.event v m.machine t k d.0 m.moves here in
            elim (along (step w1 m.event) m.after v t one.fewer d.1 r.1 one.stands) [
              | inl lent ↦ inl (subst (λ xs. is_lent_once w xs v t ≡ true) (sym m.parts) (lent-late w m.before (m.event ∷ m.after) v t
                  (or_right (borrows (desk w1 v) t) (is_lent_once (step w1 m.event) m.after v t) lent)))
              | inr last ↦ inr (record { fewer = one.fewer; is = one.is; stands = subst (λ x. StandsAt t one.fewer (desk x v)) (sym p.leads) last })
            ])
      ]

  -- one round at a time
  served-in : (k : ℕ) (w : World) (es : List Event) (v t round : ℕ) → IsSettled w → IsUndamaged w es → IsTokenRingGood w → v < w.net.nodes
      → gives_up w es v t ≡ false → StandsAt t k (desk w v) → round ≡ 8 * (w.net.nodes - 1) → Sweeps w (suc k * round) es → is_lent_once w es v t ≡ true
  served-in zero w es v t round s u g h stays st is sweeps =
      elim (round-over w es v t 0 s u g h stays st (other-number w (1 * round) (8 * (w.net.nodes - 1)) es (omega (arith, is)) sweeps)) [
        | inl lent ↦ lent
        | inr one ↦ absurd (omega (arith, one.is))
      ]
  served-in (suc k) w es v t round s u g h stays st is sweeps =
      let x = b.split w round (suc k * round) es (other-number w (suc (suc k) * round) (round + suc k * round) es (grind arith) sweeps) in
      let p = parted b w es x.0 x.1 x.2 u in
      let q = stays-in w x.0 x.1 v t (subst (λ xs. gives_up w xs v t ≡ false) x.2 stays) in
      let net = b.network w x.0 p.early in
      let mid = run w x.0 in
      subst (λ xs. is_lent_once w xs v t ≡ true) (sym x.2)
      (elim (round-over w x.0 v t (suc k) s p.early g h q.0 st (other-number w round (8 * (w.net.nodes - 1)) x.0 is x.3)) [
        | inl lent ↦ lent-early w x.0 x.1 v t lent
        | inr one ↦ (let same : one.fewer ≡ k = omega (arith, one.is) in
            let st1 : StandsAt t k (desk mid v) = subst (λ j. StandsAt t j (desk mid v)) same one.stands in
            lent-late w x.0 x.1 v t (served-in k mid x.1 v t round (b.settled w x.0 s p.early) p.late (b.good w x.0 s p.early g)
            (subst (λ n. v < n.nodes) (sym net) h) q.1 st1 (is ∙ ap (λ n. 8 * (n.nodes - 1)) (sym net)) x.4))
      ])

  pub waiting-are_served : WaitingAreServed
  waiting-are_served w es v t i r u l h at stays sweeps =
      let round = 8 * (w.net.nodes - 1) in
      let st : StandsAt t (suc i) (desk w v) = record { place = i; at = at; most = omega arith; ready = inl (omega arith) } in
      served-in (suc i) w es v t round (record { range = r; links = l.links; tree = l.tree }) u l.ring h stays st refl
      (other-number w (round * (i + 2)) (suc (suc i) * round) es (grind arith) sweeps)
