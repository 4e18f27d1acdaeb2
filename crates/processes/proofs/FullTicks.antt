-- A node that ticks in its turns, and whose loans end, ticks fully in each stretch that is long
-- enough.
use Rattle.std.proofs.Common.{◌≡◌, ◌⊎◌, inl, inr, ℕ, zero, suc, ◌+◌, ◌*◌, ◌<◌, ◌≤◌, ◌==◌, if◌then◌else◌, ◌&&◌, max, List, [], ◌∷◌, ◌++◌, Option, Some, None, IsTrue, IsFalse, is_none, is_some, Bool, true, false, refl, ap, ◌∙◌, sym, subst, arith}
use Rattle.std.proofs.lemmas.List.{append_assoc, append-nil}
use Rattle.std.proofs.lemmas.List.Elements.{Contains-append_cases}
use Rattle.std.proofs.lemmas.Grind.{common_steps}
use Rattle.std.specs.List.{AllByRecursion, Contains}
use Rattle.topology.specs.Laws.{JoinedAreNodes}
use Rattle.lock_desk.specs.Desk.{lends}
use Rattle.node_core.specs.Site.{Site, site_of}
use Rattle.node_core.specs.State.{LocalState}
use Rattle.node_core.specs.Deeds.{Deed, Ticks, Sends, Takes, Asks, Leaves}
use Rattle.recovery_times.specs.declared.premises.Premises.{Premises}
use Rattle.recovery_times.specs.Times.{full_of, window_of}
use Rattle.processes.specs.Accounts.{Timed, AreInTime}
use Rattle.processes.specs.Timing.{after_deed, is_in, is_full, ticks_fully_in}
use Rattle.processes.specs.Turns.{Turn, TurnsOften}
use Rattle.processes.specs.Loans.{led, Point, TicksIn, LendsIn, TicksInTurns, NobodyBorrows, LoansEndWithin, LoansKeep, pace_of, TurnsTickFully, PremisesGiveWindows, RecoversInTime, WaitsInTime}
use Rattle.processes.specs.TimeLaws.{ServesInTime, LendsInTime}
use Rattle.processes.proofs.Lists.{all-first, all-rest, all-both, all-more, in-none, first-or, left-or, right-or}
use Rattle.processes.proofs.TurnWindows.{pace-gives-windows}

-- ---- lists

-- a list, split at an item
abbrev Split : {X : Type 0} → List X → X → Type 0
Split {X = X} xs x = (before after : List X) × (xs ≡ before ++ (x ∷ after))

split : {X : Type 0} (x : X) (xs : List X) → Contains xs x → Split xs x
split x [] h = absurd (in-none x h)
split x (y ∷ ys) h = elim (first-or x y ys h) [
  | inl same ↦ ([], ys, ap (λ z. z ∷ ys) same)
  | inr there ↦ let s = split x ys there in (y ∷ s.0, s.1, ap (λ l. y ∷ l) s.2)
]

all-at : {X : Type 0} (P : X → Type 0) (x : X) (xs : List X) → Contains xs x → AllByRecursion P xs → P x
all-at P x [] h a = absurd (in-none x h)
all-at P x (y ∷ ys) h a = elim (first-or x y ys h) [
  | inl same ↦ subst P same a.0
  | inr there ↦ all-at P x ys there a.1
]

-- two ways to cut one list
abbrev Compared : {X : Type 0} → List X → List X → List X → List X → Type 0
Compared {X = X} xs ys us vs =
    ((more : List X) × (us ≡ xs ++ more) × (ys ≡ more ++ vs))
    ⊎ ((more : List X) × (xs ≡ us ++ more) × (vs ≡ more ++ ys))

compare : {X : Type 0} (xs ys us vs : List X) → xs ++ ys ≡ us ++ vs → Compared xs ys us vs
compare [] ys us vs e = inl (us, refl, e)
compare (x ∷ xs) ys [] vs e = inr (x ∷ xs, refl, sym e)
compare (x ∷ xs) ys (u ∷ us) vs e =
    let heads : x ≡ u = cc in
    let tails : xs ++ ys ≡ us ++ vs = cc in
    elim (compare xs ys us vs tails) [
      | inl (more, a, b) ↦ inl (more, ap (λ l. u ∷ l) a ∙ ap (λ z. z ∷ (xs ++ more)) (sym heads), b)
      | inr (more, a, b) ↦ inr (more, ap (λ l. x ∷ l) a ∙ ap (λ z. z ∷ (us ++ more)) heads, b)
    ]

-- ---- accounts in time

abbrev Until : ℕ → List Timed → Type 0
Until a ts = AllByRecursion (λ t. t.instant ≤ a) ts

abbrev Since : ℕ → List Timed → Type 0
Since a ts = AllByRecursion (λ t. a ≤ t.instant) ts

in-time-rest : (xs ys : List Timed) → AreInTime (xs ++ ys) → AreInTime ys
in-time-rest [] ys h = h
in-time-rest (x ∷ xs) ys h = in-time-rest xs ys h.1

until-deed : (xs : List Timed) (t : Timed) (ys : List Timed) → AreInTime (xs ++ (t ∷ ys)) → Until t.instant xs
until-deed [] t ys h = tt
until-deed (x ∷ xs) t ys h = ((all-rest (λ later. x.instant ≤ later.instant) xs (t ∷ ys) h.0).0, until-deed xs t ys h.1)

since-deed : (xs : List Timed) (t : Timed) (ys : List Timed) → AreInTime (xs ++ (t ∷ ys)) → Since t.instant ys
since-deed xs t ys h = (in-time-rest xs (t ∷ ys) h).0

-- ---- a node along its account

led-join : (site : Site) (xs ys : List Timed) (x : LocalState) → led site (xs ++ ys) x ≡ led site ys (led site xs x)
led-join site [] ys x = refl
led-join site (t ∷ xs) ys x = led-join site xs ys (after_deed site t.deed x)

later-tick : (site : Site) (s e : ℕ) (xs ys : List Timed) (x : LocalState) → IsTrue (ticks_fully_in site s e ys (led site xs x)) → IsTrue (ticks_fully_in site s e (xs ++ ys) x)
later-tick site s e [] ys x h = h
later-tick site s e (t ∷ xs) ys x h =
    right-or (is_in s e t.instant && is_full site t.deed x) (ticks_fully_in site s e (xs ++ ys) (after_deed site t.deed x))
    (later-tick site s e xs ys (after_deed site t.deed x) h)

in-range : (s e a : ℕ) (full : Bool) → s ≤ a → a < e → IsTrue full → IsTrue (is_in s e a && full)
in-range s e a full l m h = grind (arith, common_steps)

tick-here : (site : Site) (s e : ℕ) (t : Timed) (ts : List Timed) (x : LocalState) → s ≤ t.instant → t.instant < e → IsTrue (is_full site t.deed x) → IsTrue (ticks_fully_in site s e (t ∷ ts) x)
tick-here site s e t ts x l m h =
    left-or (is_in s e t.instant && is_full site t.deed x) (ticks_fully_in site s e ts (after_deed site t.deed x)) (in-range s e t.instant (is_full site t.deed x) l m h)

-- ---- a loan that ended

-- the node lends to nobody, and does not lend before its next tick is over
abbrev IsFree : LocalState → Type 0
IsFree x = (x.desk.lent ≡ None) × (x.desk.served ≡ true)

abbrev is_tick : Deed → Bool
is_tick Ticks = true
is_tick (Sends w f) = false
is_tick (Takes w f) = false
is_tick (Asks t) = false
is_tick (Leaves t) = false

free-stays : (site : Site) (d : Deed) (x : LocalState) → IsFree x → is_tick d ≡ false → IsFree (after_deed site d x)
free-stays site Ticks x h n = absurd cc
free-stays site (Sends w f) x h n = h
free-stays site (Takes w f) x h n = grind (arith, common_steps)
free-stays site (Asks t) x h n = grind (arith, common_steps)
free-stays site (Leaves t) x h n = grind (arith, common_steps)

free-full : (site : Site) (x : LocalState) → IsFree x → IsTrue (is_full site Ticks x)
free-full site x h = grind (arith, common_steps)

free-lends : (x : LocalState) → IsFree x → IsTrue (lends x.desk) → ⊥
free-lends x h l = grind (arith, common_steps)

ends-free : (site : Site) (d : Deed) (x : LocalState) → IsTrue (lends x.desk) → IsFalse (lends (after_deed site d x).desk) → is_tick d ≡ false → IsFree (after_deed site d x)
ends-free site Ticks x h e n = absurd cc
ends-free site (Sends w f) x h e n = absurd cc
ends-free site (Takes w f) x h e n = grind (arith, common_steps)
ends-free site (Asks t) x h e n = grind (arith, common_steps)
ends-free site (Leaves t) x h e n = grind (arith, common_steps)

-- a tick that lends to nobody is full
ends-full : (site : Site) (x : LocalState) → IsFalse (lends (after_deed site Ticks x).desk) → IsTrue (is_full site Ticks x)
ends-full site x e = none-of (after_deed site Ticks x).desk.lent e where
  none-of : (o : Option ℕ) → IsFalse (is_some o) → IsTrue (is_none o)
  none-of None e = refl
  none-of (Some t) e = absurd cc

true-or : (b : Bool) → IsTrue b ⊎ IsFalse b
true-or true = inl refl
true-or false = inr refl

deed-tick : (d : Deed) → (d ≡ Ticks) ⊎ (is_tick d ≡ false)
deed-tick Ticks = inl refl
deed-tick (Sends w f) = inr refl
deed-tick (Takes w f) = inr refl
deed-tick (Asks t) = inr refl
deed-tick (Leaves t) = inr refl

-- the first tick of a free node is full
first-tick : (site : Site) (s e b : ℕ) (ts : List Timed) (x : LocalState) → IsFree x → AreInTime ts → Since s ts → b < e → Contains ts (record { instant = b; deed = Ticks })
    → IsTrue (ticks_fully_in site s e ts x)
first-tick site s e b [] x free time since l there = absurd (in-none (record { instant = b; deed = Ticks }) there)
first-tick site s e b (t ∷ ts) x free time since l there =
    elim (deed-tick t.deed) [
      | inl tick ↦
          tick-here site s e t ts x since.0 (before (first-or (record { instant = b; deed = Ticks }) t ts there))
          (subst (λ d. IsTrue (is_full site d x)) (sym tick) (free-full site x free))
      | inr other ↦ elim (first-or (record { instant = b; deed = Ticks }) t ts there) [
        | inl same ↦ let d : t.deed ≡ Ticks = ap (λ z. z.deed) same in absurd cc
        | inr later ↦
            right-or (is_in s e t.instant && is_full site t.deed x) (ticks_fully_in site s e ts (after_deed site t.deed x))
            (first-tick site s e b ts (after_deed site t.deed x) (free-stays site t.deed x free other) time.1 since.1 l later)
      ]
    ]
  where
    before : (t ≡ record { instant = b; deed = Ticks }) ⊎ Contains ts (record { instant = b; deed = Ticks }) → t.instant < e
    before (inl same) = let i : t.instant ≡ b = ap (λ z. z.instant) same in omega (arith, i, l)
    before (inr later) =
        let i : t.instant ≤ b = all-at (λ z. t.instant ≤ z.instant) (record { instant = b; deed = Ticks }) ts later time.0 in omega (arith, i, l)

-- and if a free node lends later, it has ticked
lends-later : (site : Site) (s e : ℕ) (ts rest : List Timed) (x : LocalState) → IsFree x → Since s ts → AllByRecursion (λ t. t.instant < e) ts → IsTrue (lends (led site ts x).desk)
    → IsTrue (ticks_fully_in site s e (ts ++ rest) x)
lends-later site s e [] rest x free since soon h = absurd (free-lends x free h)
lends-later site s e (t ∷ ts) rest x free since soon h = elim (deed-tick t.deed) [
  | inl tick ↦ tick-here site s e t (ts ++ rest) x since.0 soon.0 (subst (λ d. IsTrue (is_full site d x)) (sym tick) (free-full site x free))
  | inr other ↦
      right-or (is_in s e t.instant && is_full site t.deed x) (ticks_fully_in site s e (ts ++ rest) (after_deed site t.deed x))
      (lends-later site s e ts rest (after_deed site t.deed x) (free-stays site t.deed x free other) since.1 soon.1 h)
]

-- a loan ends in a full tick, or by a deed that leaves the node free
abbrev Frees : Site → List Timed → LocalState → Type 0
Frees site ts x = (front : List Timed) × (t : Timed) × (back : List Timed) × (ts ≡ front ++ (t ∷ back)) × IsFree (after_deed site t.deed (led site front x))

loan-ends : (site : Site) (s e : ℕ) (ts rest : List Timed) (x : LocalState) → Since s ts → AllByRecursion (λ t. t.instant < e) ts → IsTrue (lends x.desk) → IsFalse (lends (led site ts x).desk)
    → IsTrue (ticks_fully_in site s e (ts ++ rest) x) ⊎ Frees site ts x
loan-ends site s e [] rest x since soon h n = absurd cc
loan-ends site s e (t ∷ ts) rest x since soon h n = elim (true-or (lends (after_deed site t.deed x).desk)) [
  | inl still ↦ elim (loan-ends site s e ts rest (after_deed site t.deed x) since.1 soon.1 still n) [
    | inl ticks ↦ inl (right-or (is_in s e t.instant && is_full site t.deed x) (ticks_fully_in site s e (ts ++ rest) (after_deed site t.deed x)) ticks)
    | inr (front, d, back, is, free) ↦ inr (t ∷ front, d, back, ap (λ l. t ∷ l) is, free)
  ]
  | inr over ↦ elim (deed-tick t.deed) [
    | inl tick ↦
        inl (tick-here site s e t (ts ++ rest) x since.0 soon.0
        (subst (λ d. IsTrue (is_full site d x)) (sym tick) (ends-full site x (subst (λ d. IsFalse (lends (after_deed site d x).desk)) tick over))))
    | inr other ↦ inr ([], t, ts, refl, ends-free site t.deed x h over other)
  ]
]

-- ---- a stretch

module _ (p : Premises) (site : Site) (start until : ℕ) (turns : List Turn) (account : List Timed) (s : LocalState)
    (time : AreInTime account) (often : TurnsOften (pace_of p) start until turns) (ticks : TicksInTurns site start until turns account s) where
  abbrev FullIn : ℕ → ℕ → Type 0
  FullIn from end = IsTrue (ticks_fully_in site from end account s)

  -- the point after a tick
  after-tick : (a : ℕ) (front back : List Timed) → account ≡ front ++ (record { instant = a; deed = Ticks } ∷ back) → Point account a
  after-tick a front back is =
      let tick : Timed = record { instant = a; deed = Ticks } in
      let t2 = subst AreInTime is time in record {
        before = front ++ (tick ∷ []);
        after = back;
        whole = is ∙ sym (append_assoc front (tick ∷ []) back);
        until = all-both (λ t. t.instant ≤ a) front (tick ∷ []) (until-deed front tick back t2) (le-self a, tt);
        since = since-deed front tick back t2;
      }
    where
      le-self : (n : ℕ) → n ≤ n
      le-self n = omega arith

  -- the tick of a turn is full, or the node lends after it
  tick-or-loan : (from end : ℕ) (t : Turn) → from ≤ t.begins → t.ends < end → TicksIn t account → FullIn from end ⊎ LendsIn site t account s
  unfolding after-tick split
  tick-or-loan from end t l m (a, there, begins, ends) =
      let tick : Timed = record { instant = a; deed = Ticks } in
      let c = split tick account there in
      let x = led site c.0 s in
      elim (true-or (lends (after_deed site Ticks x).desk)) [
        | inl lent ↦
            let point = after-tick a c.0 c.1 c.2 in
            inr (a, point, begins, ends, subst (λ (y : LocalState). IsTrue (lends y.desk)) (sym (led-join site c.0 (tick ∷ []) s)) lent)
        | inr none ↦
            inl (subst (λ ts. IsTrue (ticks_fully_in site from end ts s)) (sym c.2)
            (later-tick site from end c.0 (tick ∷ c.1) s (tick-here site from end tick c.1 x (omega (arith, l, begins)) (omega (arith, ends, m)) (ends-full site x none))))
      ]

  -- a free node has a full tick in its next turn, or had one before
  free-ticks : (from end : ℕ) (front : List Timed) (d : Timed) (back : List Timed) → account ≡ front ++ (d ∷ back) → IsFree (after_deed site d.deed (led site front s))
      → start ≤ from → from ≤ d.instant → suc d.instant + p.turn ≤ end → end ≤ until → FullIn from end
  free-ticks from end front d back is free l m n o =
      let t2 = subst AreInTime is time in
      let x = after_deed site d.deed (led site front s) in
      let since : Since d.instant back = since-deed front d back t2 in
      let since-from : Since from back = all-more (λ t. d.instant ≤ t.instant) (λ t. from ≤ t.instant) back (λ t k. omega (arith, k, m)) since in
      let whole : account ≡ (front ++ (d ∷ [])) ++ back = is ∙ sym (append_assoc front (d ∷ []) back) in
      let done : Until d.instant (front ++ (d ∷ [])) = all-both (λ t. t.instant ≤ d.instant) front (d ∷ []) (until-deed front d back t2) (le-self d.instant, tt) in
      let here : led site (front ++ (d ∷ [])) s ≡ x = led-join site front (d ∷ []) s in
      let turn = often (suc d.instant) (omega (arith, l, m)) (omega (arith, n, o)) in
      let begins = turn.2 in
      let ends = turn.4 in
      subst (λ ts. IsTrue (ticks_fully_in site from end ts s)) (sym whole)
      (later-tick site from end (front ++ (d ∷ [])) back s (subst (λ y. IsTrue (ticks_fully_in site from end back y)) (sym here)
      (elim (ticks turn.0 turn.1 (omega (arith, l, m, begins)) (omega (arith, ends, n, o))) [
        | inl (b, there, since-b, until-b) ↦
            let tick : Timed = record { instant = b; deed = Ticks } in
            elim (Contains-append_cases (front ++ (d ∷ [])) back tick (subst (λ ts. Contains ts tick) whole there)) [
              | inl early ↦ let k : b ≤ d.instant = all-at (λ t. t.instant ≤ d.instant) tick (front ++ (d ∷ [])) early done in absurd (omega (arith, k, since-b, begins))
              | inr later ↦ first-tick site from end b back x free t2-back since-from (omega (arith, until-b, ends, n)) later
            ]
        | inr (c, point, since-c, until-c, lent) ↦
            elim (compare (front ++ (d ∷ [])) back point.before point.after (sym whole ∙ point.whole)) [
              | inl (more, a, b) ↦
                  let soon : Until c more = all-rest (λ t. t.instant ≤ c) (front ++ (d ∷ [])) more (subst (Until c) a point.until) in
                  let soon-end = all-more (λ t. t.instant ≤ c) (λ t. t.instant < end) more (λ t k. omega (arith, k, until-c, ends, n)) soon in
                  let lent-x : IsTrue (lends (led site more x).desk)
                  = subst (λ (y : LocalState). IsTrue (lends (led site more y).desk)) here (subst (λ (y : LocalState). IsTrue (lends y.desk)) (ap (λ ts. led site ts s) a ∙ led-join site (front ++ (d ∷ [])) more s) lent) in
                  subst (λ ts. IsTrue (ticks_fully_in site from end ts x)) (sym b)
                  (lends-later site from end more point.after x free (all-first (λ t. from ≤ t.instant) more point.after (subst (Since from) b since-from)) soon-end lent-x)
              | inr (more, a, b) ↦
                  let early : Until d.instant more = all-rest (λ t. t.instant ≤ d.instant) point.before more (subst (Until d.instant) a done) in
                  let late : Since c more = all-first (λ t. c ≤ t.instant) more back (subst (Since c) b point.since) in
                  absurd (free-lends x free (subst (λ (y : LocalState). IsTrue (lends y.desk)) (sym (ap (λ ts. led site ts s) (none-between c d.instant point.before more (omega (arith, since-c, begins)) early late)) ∙ (ap (λ ts. led site ts s) (sym a) ∙ here)) lent))
            ]
      ])))
    where
      le-self : (n : ℕ) → n ≤ n
      le-self n = omega arith

      t2-back : AreInTime back
      t2-back = (in-time-rest front (d ∷ back) (subst AreInTime is time)).1

      none-between : (c i : ℕ) (xs more : List Timed) → i < c → Until i more → Since c more → xs ++ more ≡ xs
      none-between c i xs [] l early late = append-nil xs
      none-between c i xs (t ∷ more) l early late = let a = early.0 in let b = late.0 in absurd (omega (arith, l, a, b))

  -- if the node lends at a point less than a turn after the start of the stretch, the stretch has a
  -- full tick
  loan-over : (loan from : ℕ) → LoansEndWithin loan site start until account s → (a : ℕ) (point : Point account a) → IsTrue (lends (led site point.before s).desk)
      → start ≤ from → from ≤ a → a < from + p.turn → from + (loan + 2 * p.turn) ≤ until → FullIn from (from + (loan + 2 * p.turn))
  loan-over loan from ends a point lent l since soon to =
      let end = from + (loan + 2 * p.turn) in
      let x = led site point.before s in
      let over = ends a point (omega (arith, l, since)) (omega (arith, soon, to, turn-is)) lent in
      let done = over.0 in
      let rest = over.1 in
      let is = over.2 in
      let in-loan : Until (a + loan) done = over.3 in
      let whole : account ≡ point.before ++ (done ++ rest) = point.whole ∙ ap (λ ts. point.before ++ ts) is in
      let since-a : Since a done = all-first (λ t. a ≤ t.instant) done rest (subst (Since a) is point.since) in
      let since-from : Since from done = all-more (λ t. a ≤ t.instant) (λ t. from ≤ t.instant) done (λ t k. omega (arith, k, since)) since-a in
      let soon-end = all-more (λ t. t.instant ≤ a + loan) (λ t. t.instant < end) done (λ t k. omega (arith, k, soon)) in-loan in
      elim (loan-ends site from end done rest x since-from soon-end lent over.4) [
        | inl full ↦ subst (λ ts. IsTrue (ticks_fully_in site from end ts s)) (sym whole) (later-tick site from end point.before (done ++ rest) s full)
        | inr (front, d, back, parts, free) ↦
            let cut-done : done ++ rest ≡ front ++ (d ∷ (back ++ rest)) = ap (λ ts. ts ++ rest) parts ∙ append_assoc front (d ∷ back) rest in
            let cut : account ≡ (point.before ++ front) ++ (d ∷ (back ++ rest))
            = whole ∙ (ap (λ ts. point.before ++ ts) cut-done ∙ sym (append_assoc point.before front (d ∷ (back ++ rest)))) in
            let since-d = (all-rest (λ t. from ≤ t.instant) front (d ∷ back) (subst (Since from) parts since-from)).0 in
            let until-d = (all-rest (λ t. t.instant ≤ a + loan) front (d ∷ back) (subst (Until (a + loan)) parts in-loan)).0 in
            free-ticks from end (point.before ++ front) d (back ++ rest) cut
            (subst (λ (y : LocalState). IsFree (after_deed site d.deed y)) (sym (led-join site point.before front s)) free) l since-d (omega (arith, until-d, soon)) to
      ]
    where
      turn-is : 0 ≤ p.turn
      turn-is = omega arith

  -- if nobody borrows, each turn has a full tick
  full-if-free : NobodyBorrows site start until account s → (from : ℕ) → start ≤ from → from + p.turn ≤ until → FullIn from (from + p.turn)
  full-if-free free from l to =
      let turn = often from l to in
      let begins = turn.2 in
      let ends = turn.4 in
      let never : LendsIn site turn.0 account s → ⊥
      = λ lent. let c = lent.0 in let b = lent.2 in let e = lent.3 in
      let f = free c lent.1 (omega (arith, l, begins, b)) (omega (arith, ends, e, to)) in let t = lent.4 in not-both (lends (led site lent.1.before s).desk) t f in
      elim (ticks turn.0 turn.1 (omega (arith, l, begins)) (omega (arith, ends, to))) [
        | inl there ↦ elim (tick-or-loan from (from + p.turn) turn.0 begins ends there) [
          | inl full ↦ full
          | inr lent ↦ absurd (never lent)
        ]
        | inr lent ↦ absurd (never lent)
      ]
    where
      not-both : (b : Bool) → IsTrue b → IsFalse b → ⊥
      not-both true t f = cc
      not-both false t f = cc

  -- if loans end, a stretch of a loan and two turns has a full tick
  full-if-ends : (loan : ℕ) → LoansEndWithin loan site start until account s → (from : ℕ) → start ≤ from → from + (loan + 2 * p.turn) ≤ until → FullIn from (from + (loan + 2 * p.turn))
  full-if-ends loan ends from l to =
      let end = from + (loan + 2 * p.turn) in
      let turn = often from l (omega (arith, to)) in
      let begins = turn.2 in
      let last = turn.4 in
      let from-loan : LendsIn site turn.0 account s → FullIn from end
      = λ lent. let b = lent.2 in let e = lent.3 in loan-over loan from ends lent.0 lent.1 lent.4 l (omega (arith, begins, b)) (omega (arith, e, last)) to in
      elim (ticks turn.0 turn.1 (omega (arith, l, begins)) (omega (arith, last, to))) [
        | inl there ↦ elim (tick-or-loan from end turn.0 begins (omega (arith, last)) there) [
          | inl full ↦ full
          | inr lent ↦ from-loan lent
        ]
        | inr lent ↦ from-loan lent
      ]

loan-full : (k a b : ℕ) → (if suc k == 0 then a else b) ≡ b
loan-full k a b = grind (arith, common_steps)

by-loan : (p : Premises) (site : Site) (start until : ℕ) (turns : List Turn) (account : List Timed) (s : LocalState) → AreInTime account → TurnsOften (pace_of p) start until turns
    → TicksInTurns site start until turns account s → (loan : ℕ) → LoansKeep loan site start until account s → (from full : ℕ) → full ≡ (if loan == 0 then p.turn else loan + 2 * p.turn)
    → start ≤ from → from + full ≤ until → IsTrue (ticks_fully_in site from (from + full) account s)
by-loan p site start until turns account s time often ticks zero keep from full is l to =
    let q : full ≡ p.turn = is in
    subst (λ n. IsTrue (ticks_fully_in site from (from + n) account s)) (sym q)
    (full-if-free p site start until turns account s time often ticks keep from l (subst (λ n. from + n ≤ until) q to))
by-loan p site start until turns account s time often ticks (suc k) keep from full is l to =
    let q : full ≡ suc k + 2 * p.turn = is ∙ loan-full k p.turn (suc k + 2 * p.turn) in
    subst (λ n. IsTrue (ticks_fully_in site from (from + n) account s)) (sym q)
    (full-if-ends p site start until turns account s time often ticks (suc k) keep from l (subst (λ n. from + n ≤ until) q to))

pub turns-tick-fully : TurnsTickFully
turns-tick-fully p site start until turns account s time often ticks keep from l to =
    by-loan p site start until turns account s time often ticks p.loan keep from (full_of p) refl l to

pub premises-give-windows : JoinedAreNodes → PremisesGiveWindows
premises-give-windows are-joined p start until turns w account history range k =
    pace-gives-windows are-joined (pace_of p) start until turns w account history range (record {
      turns_often = k.turns_often;
      gives = k.gives;
      arrives = k.arrives;
      ticks = λ v s in-net from to.
          turns-tick-fully p (site_of w.net v) start until (turns v) (account v) (w.node v) (k.in_time v) (k.turns_often v in-net) (k.ticks v in-net) (k.loans v in-net) s from to;
    })

pub recovers-in-time : PremisesGiveWindows → ServesInTime → RecoversInTime
recovers-in-time windows serves p start until turns w last account history events o before after range are keeps is to later =
    serves w last account history events o (window_of p) start until before after range are (windows p start until turns w account history range keeps) is to later

pub waits-in-time : PremisesGiveWindows → LendsInTime → WaitsInTime
waits-in-time windows lends p start until turns w last account history events o s v t i before stretch after range are keeps is from to was inside later in-net place stays =
    lends w last account history events o (window_of p) start until s v t i before stretch after range are (windows p start until turns w account history range keeps) is from to was inside later in-net place stays
