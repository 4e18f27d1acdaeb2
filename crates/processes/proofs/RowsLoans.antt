-- Small accounts of loans and turns, checked by hand; and windows that are too short.
use Rattle.std.proofs.Common.{◌≡◌, ◌⊎◌, inl, inr, ℕ, zero, suc, ◌+◌, ◌*◌, ◌<◌, ◌≤◌, List, [], ◌∷◌, ◌++◌, Option, Some, None, IsTrue, IsFalse, Bool, true, false, refl, ap, ◌∙◌, sym, subst, arith}
use Rattle.std.proofs.lemmas.Grind.{common_steps}
use Rattle.std.specs.List.{AllByRecursion, Contains}
use Rattle.topology.specs.declared.frame.Frame.{Frame}
use Rattle.lock_desk.specs.Desk.{DeskState, lends}
use Rattle.node_core.specs.Site.{Site}
use Rattle.node_core.specs.State.{LocalState}
use Rattle.node_core.specs.Deeds.{Ticks, Leaves}
use Rattle.recovery_times.specs.declared.premises.Premises.{Premises}
use Rattle.processes.specs.Accounts.{Timed, AreInTime}
use Rattle.processes.specs.Links.{Act, Accepts, Gives}
use Rattle.processes.specs.Timing.{passages, passes_in, ticks_fully_in}
use Rattle.processes.specs.Turns.{Turn, Pace, TurnsOften, GivesOften, Arrives}
use Rattle.processes.specs.Loans.{led, Point, TicksIn, LendsIn, TicksInTurns, NobodyBorrows, LoansEndWithin, LoansKeep, pace_of}
use Rattle.processes.proofs.Lists.{in-none, in-one, of-one}
use Rattle.processes.proofs.TurnWindows.{passes-within}

abbrev turn_at : ℕ → ℕ → Turn
turn_at begins ends = record { begins = begins; ends = ends }

abbrev tick_at : ℕ → Timed
tick_at n = record { instant = n; deed = Ticks }

abbrev leave_at : ℕ → Timed
leave_at n = record { instant = n; deed = Leaves 7 }

abbrev lent_desk : DeskState
lent_desk = record { waiting = []; lent = Some 7; left = 0; served = false }

-- the node lends to ticket 7
abbrev lending : LocalState → LocalState
lending s = record s { desk = lent_desk }

not-both : (b : Bool) → IsTrue b → IsFalse b → ⊥
not-both true t f = cc
not-both false t f = cc

none-before : (xs ys : List Timed) → [] ≡ xs ++ ys → xs ≡ []
none-before [] ys e = refl
none-before (x ∷ xs) ys e = absurd cc

-- the point before all deeds
abbrev at-first : (account : List Timed) (a : ℕ) → AllByRecursion (λ t. a ≤ t.instant) account → Point account a
at-first account a since = record { before = []; after = account; whole = refl; until = tt; since = since }

-- ---- nobody borrows

free-node : (s : LocalState) → s.desk.lent ≡ None → IsFalse (lends s.desk)
free-node s none = grind (arith, common_steps)

nobody-borrows : (site : Site) (s : LocalState) → s.desk.lent ≡ None → NobodyBorrows site 0 20 [] s
nobody-borrows site s none a p from to = subst (λ ts. IsFalse (lends (led site ts s).desk)) (sym (none-before p.before p.after p.whole)) (free-node s none)

not-a-loan : (site : Site) (s : LocalState) → NobodyBorrows site 0 20 [] (lending s) → ⊥
not-a-loan site s nobody = let f = nobody 0 (at-first [] 0 tt) (omega arith) (omega arith) in not-both true refl f

-- ---- ticks in turns

a-turn-that-ticks : (site : Site) (s : LocalState) → TicksInTurns site 0 20 (turn_at 1 3 ∷ []) (tick_at 2 ∷ []) s
a-turn-that-ticks site s t there from to =
    let b : t.begins ≡ 1 = ap (λ x. x.begins) (of-one (turn_at 1 3) t there) in
    let e : t.ends ≡ 3 = ap (λ x. x.ends) (of-one (turn_at 1 3) t there) in
    inl (2, in-one (tick_at 2), omega (arith, b), omega (arith, e))

a-tick-left-out : (site : Site) (s : LocalState) → TicksInTurns site 0 20 (turn_at 1 3 ∷ []) [] (lending s)
a-tick-left-out site s t there from to =
    let b : t.begins ≡ 1 = ap (λ x. x.begins) (of-one (turn_at 1 3) t there) in
    let e : t.ends ≡ 3 = ap (λ x. x.ends) (of-one (turn_at 1 3) t there) in
    inr (2, at-first [] 2 tt, omega (arith, b), omega (arith, e), refl)

-- a turn without a tick, though nobody borrows
not-a-turn-without-a-tick : (site : Site) (s : LocalState) → s.desk.lent ≡ None → TicksInTurns site 0 20 (turn_at 1 3 ∷ []) [] s → ⊥
not-a-turn-without-a-tick site s none ticks = elim (ticks (turn_at 1 3) (in-one (turn_at 1 3)) (omega arith) (omega arith)) [
  | inl there ↦ in-none (tick_at there.0) there.1
  | inr lent ↦
      let t = subst (λ ts. IsTrue (lends (led site ts s).desk)) (none-before lent.1.before lent.1.after lent.1.whole) lent.4 in
      not-both (lends s.desk) t (free-node s none)
]

-- ---- loans that end

abbrev OneCut : Timed → List Timed → List Timed → Type 0
OneCut t xs ys = ((xs ≡ []) × (ys ≡ t ∷ [])) ⊎ (xs ≡ t ∷ [])

one-cut : (t : Timed) (xs ys : List Timed) → t ∷ [] ≡ xs ++ ys → OneCut t xs ys
one-cut t [] ys e = inl (refl, sym e)
one-cut t (x ∷ []) ys e = inr cc
one-cut t (x ∷ y ∷ xs) ys e = absurd cc

-- a loan that is over at 4, at most 5 after any instant at which it stands
a-loan-in-time : (site : Site) (s : LocalState) → LoansEndWithin 5 site 0 20 (leave_at 4 ∷ []) (lending s)
a-loan-in-time site s a p from to lent = elim (one-cut (leave_at 4) p.before p.after p.whole) [
  | inl (front, back) ↦ (
    leave_at 4 ∷ [],
    [],
    back,
    (omega arith, tt),
    subst (λ ts. IsFalse (lends (led site (leave_at 4 ∷ []) (led site ts (lending s))).desk)) (sym front) refl,
  )
  | inr front ↦ let t = subst (λ ts. IsTrue (lends (led site ts (lending s)).desk)) front lent in absurd (not-both false t refl)
]

-- a loan that does not end
not-a-loan-that-stands : (site : Site) (s : LocalState) → LoansEndWithin 5 site 0 20 [] (lending s) → ⊥
not-a-loan-that-stands site s ends =
    let over = ends 0 (at-first [] 0 tt) (omega arith) (omega arith) refl in
    let f = subst (λ ts. IsFalse (lends (led site ts (lending s)).desk)) (none-before over.0 over.1 over.2) over.4 in
    not-both true refl f

-- a loan that is over too late
not-a-loan-too-long : (site : Site) (s : LocalState) → LoansEndWithin 5 site 0 20 (leave_at 9 ∷ []) (lending s) → ⊥
not-a-loan-too-long site s ends =
    let over = ends 0 (at-first (leave_at 9 ∷ []) 0 (omega arith, tt)) (omega arith) (omega arith) refl in
    elim (one-cut (leave_at 9) over.0 over.1 over.2) [
      | inl (none, back) ↦
          let f = subst (λ ts. IsFalse (lends (led site ts (lending s)).desk)) none over.4 in
          not-both true refl f
      | inr one ↦
          let late = (subst (AllByRecursion (λ t. t.instant ≤ 5)) one over.3).0 in
          absurd (omega (arith, late))
    ]

-- ---- one turn after a loan is too few: the stretch from 0 to 5 holds a whole loan of 3 and a turn
-- ---- of 2, and no full tick

abbrev OneTurnIsEnough : Type 0
OneTurnIsEnough =
    (p : Premises) (site : Site) (start until : ℕ) (turns : List Turn) (account : List Timed) (s : LocalState) → AreInTime account → TurnsOften (pace_of p) start until turns
    → TicksInTurns site start until turns account s → LoansKeep p.loan site start until account s → (from : ℕ) → start ≤ from → from + (p.loan + p.turn) ≤ until
    → IsTrue (ticks_fully_in site from (from + (p.loan + p.turn)) account s)

abbrev quick : Premises
quick = record { turn = 2; delay = 0; loan = 3; repeat = 0 }

abbrev odd_turns : List Turn
odd_turns = turn_at 1 1 ∷ turn_at 3 3 ∷ turn_at 5 5 ∷ []

abbrev short_account : List Timed
short_account = leave_at 3 ∷ tick_at 5 ∷ []

odd-often : TurnsOften (pace_of quick) 0 6 odd_turns
odd-often zero l m = (turn_at 1 1, (0, omega arith, refl), omega arith, omega arith, omega arith)
odd-often (suc zero) l m = (turn_at 1 1, (0, omega arith, refl), omega arith, omega arith, omega arith)
odd-often (suc (suc zero)) l m = (turn_at 3 3, (1, omega arith, refl), omega arith, omega arith, omega arith)
odd-often (suc (suc (suc zero))) l m = (turn_at 3 3, (1, omega arith, refl), omega arith, omega arith, omega arith)
odd-often (suc (suc (suc (suc zero)))) l m = (turn_at 5 5, (2, omega arith, refl), omega arith, omega arith, omega arith)
odd-often (suc (suc (suc (suc (suc s))))) l m = absurd (omega (arith, m))

abbrev OneOfThree : {X : Type 0} → X → X → X → X → Type 0
OneOfThree a b c x = (x ≡ a) ⊎ ((x ≡ b) ⊎ (x ≡ c))

one-of-three : {X : Type 0} (a b c x : X) → Contains (a ∷ b ∷ c ∷ []) x → OneOfThree a b c x
one-of-three a b c x (zero, l, is) = inl (sym is)
one-of-three a b c x (suc zero, l, is) = inr (inl (sym is))
one-of-three a b c x (suc (suc zero), l, is) = inr (inr (sym is))
one-of-three a b c x (suc (suc (suc k)), l, is) = absurd (omega (arith, l))

short-ticks : (site : Site) (s : LocalState) → TicksInTurns site 0 6 odd_turns short_account (lending s)
short-ticks site s t there from to = by-turn t (one-of-three (turn_at 1 1) (turn_at 3 3) (turn_at 5 5) t there) where
  by-turn : (t : Turn) → OneOfThree (turn_at 1 1) (turn_at 3 3) (turn_at 5 5) t → TicksIn t short_account ⊎ LendsIn site t short_account (lending s)
  by-turn t (inl is) =
      let b : t.begins ≡ 1 = ap (λ x. x.begins) is in
      let e : t.ends ≡ 1 = ap (λ x. x.ends) is in
      inr (1, at-first short_account 1 (omega arith, (omega arith, tt)), omega (arith, b), omega (arith, e), refl)
  by-turn t (inr (inl is)) =
      let b : t.begins ≡ 3 = ap (λ x. x.begins) is in
      let e : t.ends ≡ 3 = ap (λ x. x.ends) is in
      inr (3, at-first short_account 3 (omega arith, (omega arith, tt)), omega (arith, b), omega (arith, e), refl)
  by-turn t (inr (inr is)) =
      let b : t.begins ≡ 5 = ap (λ x. x.begins) is in
      let e : t.ends ≡ 5 = ap (λ x. x.ends) is in
      inl (5, (1, omega arith, refl), omega (arith, b), omega (arith, e))

short-ends : (site : Site) (s : LocalState) → LoansEndWithin 3 site 0 6 short_account (lending s)
short-ends site s a p from to lent = by-front p.before p.after p.whole p.until where
  by-front : (xs ys : List Timed) → short_account ≡ xs ++ ys → AllByRecursion (λ t. t.instant ≤ a) xs
      → (done rest : List Timed) × (ys ≡ done ++ rest) × AllByRecursion (λ t. t.instant ≤ a + 3) done × IsFalse (lends (led site done (led site xs (lending s))).desk)
  by-front [] ys e until = (leave_at 3 ∷ [], tick_at 5 ∷ [], sym e, (omega arith, tt), refl)
  by-front (x ∷ xs) ys e until =
      let heads : leave_at 3 ≡ x = cc in
      let i : 3 ≡ x.instant = ap (λ t. t.instant) heads in
      let u = until.0 in
      absurd (omega (arith, i, u, to))

not-one-turn : (site : Site) (s : LocalState) → OneTurnIsEnough → ⊥
not-one-turn site s law =
    let full = law quick site 0 6 odd_turns short_account (lending s) ((omega arith, tt), (tt, tt)) odd-often (short-ticks site s) (short-ends site s) 0 (omega arith) (omega arith) in
    not-both false full refl

-- ---- windows of a link

abbrev LinkWindow : (Pace → ℕ) → Type 0
LinkWindow window =
    (pace : Pace) (start until : ℕ) (from to : List Turn) (acts : List Act) → TurnsOften pace start until from → TurnsOften pace start until to → GivesOften pace start until from acts
    → Arrives pace start until to acts (passages [] acts) → (s : ℕ) → start ≤ s → s + window pace ≤ until → IsTrue (passes_in s (s + window pace) (passages [] acts))

le-self : (n : ℕ) → n ≤ n
le-self n = omega arith

two-turns-are-enough : LinkWindow (λ pace. pace.repeat + 2 * pace.turn + pace.delay)
two-turns-are-enough pace start until from to acts often-from often-to gives arrives s l m =
    passes-within pace start until s (s + (pace.repeat + 2 * pace.turn + pace.delay)) from to acts (passages [] acts) often-from often-to gives arrives l
    (le-self (s + (pace.repeat + 2 * pace.turn + pace.delay))) m

abbrev pace-two : ℕ → Pace
pace-two repeat = record { turn = 2; repeat = repeat; delay = 0; full = 2 }

-- without the repetition time: the first frame is given at 8, long after a window of two turns
abbrev two_turns : List Turn
two_turns = turn_at 1 1 ∷ turn_at 3 3 ∷ turn_at 3 3 ∷ []

two-often : TurnsOften (pace-two 8) 0 4 two_turns
two-often zero l m = (turn_at 1 1, (0, omega arith, refl), omega arith, omega arith, omega arith)
two-often (suc zero) l m = (turn_at 1 1, (0, omega arith, refl), omega arith, omega arith, omega arith)
two-often (suc (suc zero)) l m = (turn_at 3 3, (1, omega arith, refl), omega arith, omega arith, omega arith)
two-often (suc (suc (suc s))) l m = absurd (omega (arith, m))

none-is-due : GivesOften (pace-two 8) 0 4 two_turns []
none-is-due s t from ends there late = by-turn (one-of-three (turn_at 1 1) (turn_at 3 3) (turn_at 3 3) t there) where
  by-turn : OneOfThree (turn_at 1 1) (turn_at 3 3) (turn_at 3 3) t → (a : ℕ) × (f : Frame) × Contains [] (Accepts a f) × (s ≤ a) × (a ≤ t.ends)
  by-turn (inl is) = let b : t.begins ≡ 1 = ap (λ x. x.begins) is in absurd (omega (arith, b, late))
  by-turn (inr (inl is)) = let b : t.begins ≡ 3 = ap (λ x. x.begins) is in absurd (omega (arith, b, late))
  by-turn (inr (inr is)) = let b : t.begins ≡ 3 = ap (λ x. x.begins) is in absurd (omega (arith, b, late))

not-without-repeat : LinkWindow (λ pace. 2 * pace.turn + pace.delay) → ⊥
not-without-repeat law =
    let passes = law (pace-two 8) 0 4 two_turns two_turns [] two-often two-often none-is-due (λ a f t there from ends turn late. absurd (in-none (Accepts a f) there)) 0 (omega arith) (omega arith) in
    not-both false passes refl

-- one turn instead of two: the frame is given in a turn at 3, and taken in one at 4
abbrev even_turns : List Turn
even_turns = turn_at 0 0 ∷ turn_at 2 2 ∷ turn_at 4 4 ∷ []

abbrev one_frame : Frame → List Act
one_frame f = Accepts 3 f ∷ Gives 4 f ∷ []

two-more-often : TurnsOften (pace-two 2) 0 5 two_turns
two-more-often zero l m = (turn_at 1 1, (0, omega arith, refl), omega arith, omega arith, omega arith)
two-more-often (suc zero) l m = (turn_at 1 1, (0, omega arith, refl), omega arith, omega arith, omega arith)
two-more-often (suc (suc zero)) l m = (turn_at 3 3, (1, omega arith, refl), omega arith, omega arith, omega arith)
two-more-often (suc (suc (suc zero))) l m = (turn_at 3 3, (1, omega arith, refl), omega arith, omega arith, omega arith)
two-more-often (suc (suc (suc (suc s)))) l m = absurd (omega (arith, m))

even-often : TurnsOften (pace-two 2) 0 5 even_turns
even-often zero l m = (turn_at 0 0, (0, omega arith, refl), omega arith, omega arith, omega arith)
even-often (suc zero) l m = (turn_at 2 2, (1, omega arith, refl), omega arith, omega arith, omega arith)
even-often (suc (suc zero)) l m = (turn_at 2 2, (1, omega arith, refl), omega arith, omega arith, omega arith)
even-often (suc (suc (suc zero))) l m = (turn_at 4 4, (2, omega arith, refl), omega arith, omega arith, omega arith)
even-often (suc (suc (suc (suc s)))) l m = absurd (omega (arith, m))

given-at-three : (f : Frame) → GivesOften (pace-two 2) 0 5 two_turns (one_frame f)
given-at-three f s t from ends there late = by-turn (one-of-three (turn_at 1 1) (turn_at 3 3) (turn_at 3 3) t there) where
  at-three : t ≡ turn_at 3 3 → (a : ℕ) × (g : Frame) × Contains (one_frame f) (Accepts a g) × (s ≤ a) × (a ≤ t.ends)
  at-three is =
      let b : t.begins ≡ 3 = ap (λ x. x.begins) is in
      let e : t.ends ≡ 3 = ap (λ x. x.ends) is in
      (3, f, (0, omega arith, refl), omega (arith, b, late), omega (arith, e))

  by-turn : OneOfThree (turn_at 1 1) (turn_at 3 3) (turn_at 3 3) t → (a : ℕ) × (g : Frame) × Contains (one_frame f) (Accepts a g) × (s ≤ a) × (a ≤ t.ends)
  by-turn (inl is) = let b : t.begins ≡ 1 = ap (λ x. x.begins) is in absurd (omega (arith, b, late))
  by-turn (inr (inl is)) = at-three is
  by-turn (inr (inr is)) = at-three is

accepted-at-three : (f g : Frame) (a : ℕ) → Contains (one_frame f) (Accepts a g) → 3 ≡ a
accepted-at-three f g a (zero, l, is) = cc
accepted-at-three f g a (suc zero, l, is) = absurd cc
accepted-at-three f g a (suc (suc k), l, is) = absurd (omega (arith, l))

taken-at-four : (f : Frame) → Arrives (pace-two 2) 0 5 even_turns (one_frame f) (passages [] (one_frame f))
taken-at-four f a g t there from ends turn late =
    let n = accepted-at-three f g a there in
    let e = by-turn n (one-of-three (turn_at 0 0) (turn_at 2 2) (turn_at 4 4) t turn) in
    (record { accepted = Some 3; given = 4 }, (0, omega arith, refl), ap (λ k. Some k) n, omega (arith, n), omega (arith, e))
  where
    by-turn : 3 ≡ a → OneOfThree (turn_at 0 0) (turn_at 2 2) (turn_at 4 4) t → t.ends ≡ 4
    by-turn n (inl is) = let b : t.begins ≡ 0 = ap (λ x. x.begins) is in absurd (omega (arith, b, n, late))
    by-turn n (inr (inl is)) = let b : t.begins ≡ 2 = ap (λ x. x.begins) is in absurd (omega (arith, b, n, late))
    by-turn n (inr (inr is)) = ap (λ x. x.ends) is

not-one-turn-for-two : Frame → LinkWindow (λ pace. pace.repeat + pace.turn + pace.delay) → ⊥
not-one-turn-for-two f law =
    let passes = law (pace-two 2) 0 5 two_turns even_turns (one_frame f) two-more-often even-often (given-at-three f) (taken-at-four f) 0 (omega arith) (omega arith) in
    not-both false passes refl
