-- After its events, a desk is as it was noted.
use Rattle.std.proofs.Common.{◌≡◌, ◌≢◌, ◌∙◌, ℕ, ◌<◌, ◌≤◌, Bool, true, false, ◌&&◌, ◌==◌, List, [], ◌∷◌, ◌++◌, refl, ap, sym, subst, arith, append_assoc, Option, None, length, map}
use Rattle.std.proofs.lemmas.Bool.{cond_both}
use Rattle.std.proofs.lemmas.List.{append-nil}
use Rattle.std.proofs.lemmas.Grind.{common_steps}
use Rattle.std.proofs.lemmas.Slice.Eq.{bytes_eq-Decides}
use Rattle.std.specs.Str.{bytes_eq}
use Rattle.std.specs.List.{list_all}
use Rattle.topology.specs.Network.{Network}
use Rattle.flight_records.specs.Again.{same_node}
use Rattle.flight_records.specs.declared.entry.StatePart.TheVariants as part
use Rattle.configuration.specs.node_core.State.{LocalState}
use Rattle.configuration.specs.node_core.lock_desk.Desk.{DeskState, is_in, are_distinct, is_number, loan_fits, with_loan, asked, after_leave, is_stranger, ask_fault, without, desk_fits}
use Rattle.configuration.specs.run_model.World.{World}
use Rattle.configuration.specs.run_model.Step.{step, with_desk}
use Rattle.configuration.specs.run_model.Run.{run}
use Rattle.configuration.specs.run_model.Laws.{RunsJoin}
use Rattle.configuration.specs.run_model.declared.event.Event.{Event}
use Rattle.configuration.specs.run_model.declared.event.Event.TheVariants.{Ask, Leave, Damage}
use Rattle.configuration.specs.run_model.declared.event.Harm.TheVariants as harm
use Rattle.record_gathering.specs.Differences.{unless, harms_in, loan_harm, same_truth, desk_events}
use Rattle.record_gathering.specs.Laws.{IsReached}
use Rattle.record_gathering.proofs.Same.{node-same, truth-same}
use Rattle.record_gathering.proofs.Steps.{desk-step, leave-step, ask-step}
use Rattle.record_gathering.proofs.Reached.{at-here, at-other}

-- ---- tickets

absent-without : (t : ℕ) (ts : List ℕ) → is_in ts t ≡ false → without t ts ≡ ts
absent-without t [] a = refl
absent-without t (x ∷ ts) a =
    let first : (x == t) ≡ false = grind (arith, common_steps) in
    let rest : is_in ts t ≡ false = grind (arith, common_steps) in
    rw first (ap (λ (l : List ℕ). x ∷ l) (absent-without t ts rest))

first-without : (t : ℕ) (ts : List ℕ) → are_distinct (t ∷ ts) ≡ true → without t (t ∷ ts) ≡ ts
first-without t ts d =
    let self : (t == t) ≡ true = grind (arith, common_steps) in
    let rest : is_in ts t ≡ false = grind (arith, common_steps) in
    rw self (absent-without t ts rest)

rest-distinct : (t : ℕ) (ts : List ℕ) → are_distinct (t ∷ ts) ≡ true → are_distinct ts ≡ true
rest-distinct t ts d = grind (arith, common_steps)

in-later : (xs : List ℕ) (t : ℕ) (ts : List ℕ) → is_in (xs ++ t ∷ ts) t ≡ true
in-later [] t ts = grind (arith, common_steps)
in-later (x ∷ xs) t ts = let e = in-later xs t ts in grind (arith, common_steps, e)

equal-in : (x t : ℕ) (l : List ℕ) → is_in l t ≡ true → is_in l x ≡ false → (x == t) ≡ false
equal-in x t l inside outside = grind (arith, common_steps)

not-in-front : (xs : List ℕ) (t : ℕ) (ts : List ℕ) → are_distinct (xs ++ t ∷ ts) ≡ true → is_in xs t ≡ false
not-in-front [] t ts d = refl
not-in-front (x ∷ xs) t ts d =
    let later = in-later xs t ts in
    let none : is_in (xs ++ t ∷ ts) x ≡ false = grind (arith, common_steps) in
    let apart = equal-in x t (xs ++ t ∷ ts) later none in
    let rest : are_distinct (xs ++ t ∷ ts) ≡ true = grind (arith, common_steps) in
    let e = not-in-front xs t ts rest in
    rw (apart, e) refl

-- ---- a desk

-- from one world to another, v's desk became this one, and nothing else changed
pub record IsDeskAt (w : World) (v : ℕ) (d : DeskState) (new : World) : Type 0 where
  pub desk : (new.node v).desk ≡ d
  pub distance : (new.node v).distance ≡ (w.node v).distance
  pub parent : (new.node v).parent ≡ (w.node v).parent
  pub port : (new.node v).port ≡ (w.node v).port
  pub value : (new.node v).value ≡ (w.node v).value
  pub others : (y : ℕ) → y ≢ v → new.node y ≡ w.node y
  pub links : new.link ≡ w.link
  pub network : new.net ≡ w.net

-- nobody has the lock, and these wait
abbrev waiting : List ℕ → DeskState
waiting ts = record { waiting = ts; lent = None; left = 0; served = false }

module _ (w : World) (v : ℕ) (here : v < w.net.nodes) where
  desk-written : (d e : DeskState) (m : World) → IsDeskAt w v d m → IsDeskAt w v e (with_desk m v e)
  desk-written d e m h =
      let s = record (m.node v) { desk = e } in
      let is = at-here m.node v s in record {
        desk = ap (λ (t : LocalState). t.desk) is;
        distance = ap (λ (t : LocalState). t.distance) is ∙ h.distance;
        parent = ap (λ (t : LocalState). t.parent) is ∙ h.parent;
        port = ap (λ (t : LocalState). t.port) is ∙ h.port;
        value = ap (λ (t : LocalState). t.value) is ∙ h.value;
        others = λ y ne. at-other m.node v s y ne ∙ h.others y ne;
        links = h.links;
        network = h.network;
      }

  module _ (m : World) (d : DeskState) (h : IsDeskAt w v d m) where
    here-too : v < m.net.nodes
    here-too = subst (λ (n : Network). v < n.nodes) (sym h.network) here

    -- a fact of the desk holds there too
    still : (P : DeskState → Type 0) → P d → P (m.node v).desk
    still P = subst P (sym h.desk)

    -- an event that changes the desk
    changed-at : (e : Event) (f : DeskState → DeskState) → step m e ≡ with_desk m v (f (m.node v).desk) → IsDeskAt w v (f d) (step m e)
    changed-at e f to =
        subst (IsDeskAt w v (f d)) (sym (to ∙ ap (λ (c : DeskState). with_desk m v (f c)) h.desk)) (desk-written d (f d) m h)

    loan-at : (lent : Option ℕ) (left : ℕ) (served : Bool) → loan_fits w.net.lease d lent left ≡ true
        → IsDeskAt w v (with_loan d lent left served) (step m (Damage (harm.Desk v lent left served)))
    loan-at lent left served fits =
        changed-at (Damage (harm.Desk v lent left served)) (λ c. with_loan c lent left served)
        (desk-step m v here-too lent left served
        (subst (λ (n : Network). loan_fits n.lease (m.node v).desk lent left ≡ true) (sym h.network)
        (still (λ c. loan_fits w.net.lease c lent left ≡ true) fits)))

    leave-at : (t : ℕ) → is_stranger t d ≡ false → IsDeskAt w v (after_leave t d) (step m (Leave v t))
    leave-at t known =
        changed-at (Leave v t) (after_leave t) (leave-step m v here-too t (still (λ c. is_stranger t c ≡ false) known))

    ask-at : (t : ℕ) → is_number t ≡ true → ask_fault t d ≡ None → IsDeskAt w v (asked t d) (step m (Ask v t))
    ask-at t number free =
        changed-at (Ask v t) (asked t) (ask-step m v here-too t number (still (λ c. ask_fault t c ≡ None) free))

  known-first : (t : ℕ) (ts : List ℕ) → is_stranger t (waiting (t ∷ ts)) ≡ false
  known-first t ts = grind (arith, common_steps)

  left-first : (t : ℕ) (ts : List ℕ) → are_distinct (t ∷ ts) ≡ true → after_leave t (waiting (t ∷ ts)) ≡ waiting ts
  left-first t ts d =
      let self : (t == t) ≡ true = grind (arith, common_steps) in
      let e = first-without t ts d in grind (arith, common_steps, self, e)

  -- all tickets that wait leave
  all-leave : (ts : List ℕ) (m : World) → IsDeskAt w v (waiting ts) m → are_distinct ts ≡ true
      → IsDeskAt w v (waiting []) (run m (map (Leave v) ts))
  all-leave [] m h d = h
  all-leave (t ∷ ts) m h d =
      all-leave ts (step m (Leave v t))
      (subst (λ (e : DeskState). IsDeskAt w v e (step m (Leave v t))) (left-first t ts d)
      (leave-at m (waiting (t ∷ ts)) h t (known-first t ts)))
      (rest-distinct t ts d)

  free-to_ask : (t : ℕ) (done : List ℕ) → length done < 64 → is_in done t ≡ false → ask_fault t (waiting done) ≡ None
  free-to_ask t done few none = grind (arith, common_steps)

  one-fewer : (done : List ℕ) (t : ℕ) (ts : List ℕ) → length (done ++ t ∷ ts) ≤ 64 → length done < 64
  one-fewer done t ts few = grind (arith, common_steps)

  first-number : (t : ℕ) (ts : List ℕ) → list_all is_number (t ∷ ts) ≡ true → (is_number t ≡ true) × (list_all is_number ts ≡ true)
  first-number t ts h = (grind (arith, common_steps), grind (arith, common_steps))

  -- these tickets ask, after those that wait
  all-ask : (ts done : List ℕ) (m : World) → IsDeskAt w v (waiting done) m → are_distinct (done ++ ts) ≡ true
      → length (done ++ ts) ≤ 64 → list_all is_number ts ≡ true
      → IsDeskAt w v (waiting (done ++ ts)) (run m (map (Ask v) ts))
  all-ask [] done m h distinct few numbers =
      subst (λ (l : List ℕ). IsDeskAt w v (waiting l) m) (sym (append-nil done)) h
  all-ask (t ∷ ts) done m h distinct few numbers =
      let e : (done ++ t ∷ []) ++ ts ≡ done ++ t ∷ ts = append_assoc done (t ∷ []) ts in
      let n = first-number t ts numbers in
      subst (λ (l : List ℕ). IsDeskAt w v (waiting l) (run (step m (Ask v t)) (map (Ask v) ts))) e
      (all-ask ts (done ++ t ∷ []) (step m (Ask v t))
      (ask-at m (waiting done) h t n.0 (free-to_ask t done (one-fewer done t ts few) (not-in-front done t ts distinct)))
      (subst (λ (l : List ℕ). are_distinct l ≡ true) (sym e) distinct)
      (subst (λ (l : List ℕ). length l ≤ 64) (sym e) few) n.1)

  -- the loan, unless it is the same
  one-loan : (b : Bool) (m : World) (d : DeskState) (lent : Option ℕ) (left : ℕ) (served : Bool) → IsDeskAt w v d m
      → (b ≡ true → d ≡ with_loan d lent left served) → loan_fits w.net.lease d lent left ≡ true
      → IsDeskAt w v (with_loan d lent left served) (run m (harms_in (unless b (harm.Desk v lent left served) ∷ [])))
  one-loan true m d lent left served h same fits = subst (λ (e : DeskState). IsDeskAt w v e m) (same refl) h
  one-loan false m d lent left served h same fits = loan-at m d h lent left served fits

  same-loan : (d : DeskState) (lent : Option ℕ) (left : ℕ) (served : Bool)
      → (same_node d.lent lent && (d.left == left && same_truth d.served served)) ≡ true
      → d ≡ with_loan d lent left served
  same-loan d lent left served t =
      let a : same_node d.lent lent ≡ true = grind (arith, common_steps) in
      let b : d.left ≡ left = grind (arith, common_steps) in
      let c : same_truth d.served served ≡ true = grind (arith, common_steps) in
      ap (λ (x : Option ℕ). record d { lent = x }) (node-same d.lent lent a)
      ∙ ap (λ (x : ℕ). record d { lent = lent; left = x }) b
      ∙ ap (λ (x : Bool). record d { lent = lent; left = left; served = x }) (truth-same d.served served c)

  pub desk-start : IsDeskAt w v (w.node v).desk w
  desk-start = record {
    desk = refl;
    distance = refl;
    parent = refl;
    port = refl;
    value = refl;
    others = λ _ _. refl;
    links = refl;
    network = refl;
  }

  same-tickets : (xs ys : List ℕ) → bytes_eq xs ys ≡ true → xs ≡ ys
  same-tickets xs ys e = grind (arith, bytes_eq-Decides xs ys)

  fits-loan : (d : DeskState) (lent : Option ℕ) (left : ℕ) (served : Bool)
      → desk_fits w.net.lease (with_loan d lent left served) ≡ true → loan_fits w.net.lease d lent left ≡ true
  fits-loan d lent left served h = grind (arith, common_steps)

  no-loan : (d : DeskState) → loan_fits w.net.lease d None 0 ≡ true
  no-loan d = grind (arith, common_steps)

  queue-fits : (queue : List ℕ) (lent : Option ℕ) (left : ℕ) (served : Bool)
      → desk_fits w.net.lease (record { waiting = queue; lent = lent; left = left; served = served }) ≡ true
      → (are_distinct queue ≡ true) × (length queue ≤ 64) × (list_all is_number queue ≡ true)
  queue-fits queue lent left served h =
      (grind (arith, common_steps), grind (arith, common_steps), grind (arith, common_steps))

  module _ (join : RunsJoin) (now_fits : desk_fits w.net.lease (w.node v).desk ≡ true) where
    pub desk-reached : (queue : List ℕ) (lent : Option ℕ) (left : ℕ) (served : Bool)
        → desk_fits w.net.lease (record { waiting = queue; lent = lent; left = left; served = served }) ≡ true
        → IsDeskAt w v (record { waiting = queue; lent = lent; left = left; served = served })
        (run w (desk_events v (w.node v).desk queue lent left served))
    desk-reached queue lent left served fits =
        let d = (w.node v).desk in
        let goal_desk : DeskState = record { waiting = queue; lent = lent; left = left; served = served } in
        let loan = loan_harm v None 0 false lent left served in
        cond_both (bytes_eq d.waiting queue)
        (harms_in (loan_harm v d.lent d.left d.served lent left served ∷ []))
        (Damage (harm.Desk v None 0 false) ∷ (map (Leave v) d.waiting ++ (map (Ask v) queue ++ harms_in (loan ∷ []))))
        (λ (es : List Event). IsDeskAt w v goal_desk (run w es))
        (λ same.
        let is = same-tickets d.waiting queue same in
        subst (λ (l : List ℕ). IsDeskAt w v (record { waiting = l; lent = lent; left = left; served = served })
        (run w (harms_in (loan_harm v d.lent d.left d.served lent left served ∷ [])))) is
        (one-loan _ w d lent left served desk-start (same-loan d lent left served)
        (fits-loan d lent left served
        (subst (λ (l : List ℕ). desk_fits w.net.lease (record { waiting = l; lent = lent; left = left; served = served }) ≡ true)
        (sym is) fits))))
        (λ _.
        let m1 = step w (Damage (harm.Desk v None 0 false)) in
        let h1 : IsDeskAt w v (waiting d.waiting) m1 = loan-at w d desk-start None 0 false (no-loan d) in
        let now = queue-fits d.waiting d.lent d.left d.served now_fits in
        let m2 = run m1 (map (Leave v) d.waiting) in
        let h2 : IsDeskAt w v (waiting []) m2 = all-leave d.waiting m1 h1 now.0 in
        let then = queue-fits queue lent left served fits in
        let m3 = run m2 (map (Ask v) queue) in
        let h3 : IsDeskAt w v (waiting queue) m3 = all-ask queue [] m2 h2 then.0 then.1 then.2 in
        let h4 : IsDeskAt w v goal_desk (run m3 (harms_in (loan ∷ []))) =
        one-loan _ m3 (waiting queue) lent left served h3 (same-loan (waiting queue) lent left served)
        (fits-loan (waiting queue) lent left served fits) in
        subst (IsDeskAt w v goal_desk)
        (sym (join m1 (map (Leave v) d.waiting) (map (Ask v) queue ++ harms_in (loan ∷ []))
        ∙ join m2 (map (Ask v) queue) (harms_in (loan ∷ [])))) h4)

-- a desk that became what was noted
pub desk-is : (w : World) (queue : List ℕ) (v : ℕ) (lent : Option ℕ) (left : ℕ) (served : Bool) (new : World)
    → IsDeskAt w v (record { waiting = queue; lent = lent; left = left; served = served }) new
    → IsReached w queue v (part.Loan lent left served) new
desk-is w queue v lent left served new h = record {
  stands = h.desk;
  beside = (sym h.distance, sym h.parent, λ u. sym (ap (λ (f : ℕ → _). f u) h.port), λ u. sym (ap (λ (f : ℕ → _). f u) h.value));
  others = h.others;
  links = h.links;
  network = h.network;
}
