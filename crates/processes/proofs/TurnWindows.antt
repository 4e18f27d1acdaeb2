-- The window of a pace, by arithmetic over its turns; and the pace of a machine, by hand.
use Rattle.std.proofs.Common.{◌≡◌, ◌⊎◌, inl, inr, ℕ, ◌+◌, ◌*◌, ◌<◌, ◌≤◌, ◌&&◌, ◌||◌, max, List, [], ◌∷◌, Some, IsTrue, Bool, true, false, refl, sym, subst, arith}
use Rattle.std.proofs.lemmas.Grind.{common_steps}
use Rattle.std.specs.List.{Contains}
use Rattle.topology.specs.Laws.{JoinedAreNodes}
use Rattle.node_core.specs.Site.{Site, site_of}
use Rattle.node_core.specs.State.{LocalState}
use Rattle.processes.specs.Accounts.{Timed}
use Rattle.processes.specs.Links.{Act}
use Rattle.processes.specs.Timing.{Passage, passages, at_first, is_in, is_since, is_full, after_deed, passes_in, ticks_fully_in}
use Rattle.processes.specs.Turns.{Turn, Pace, window_of, TurnsOften, GivesOften, Arrives, PaceGivesWindows}
use Rattle.processes.proofs.Lists.{in-none, first-or, left-or, right-or}

-- a longer stretch holds the tick too
longer-ticks : (site : Site) (s d e : ℕ) (ts : List Timed) (x : LocalState) → d ≤ e → IsTrue (ticks_fully_in site s d ts x) → IsTrue (ticks_fully_in site s e ts x)
longer-ticks site s d e [] x l h = h
longer-ticks site s d e (t ∷ ts) x l h =
    more (is_in s d t.instant) (is_in s e t.instant) (is_full site t.deed x) (ticks_fully_in site s d ts (after_deed site t.deed x)) (ticks_fully_in site s e ts (after_deed site t.deed x))
    (wider s d e t.instant l) (longer-ticks site s d e ts (after_deed site t.deed x) l) h
  where
    wider : (s d e t : ℕ) → d ≤ e → IsTrue (is_in s d t) → IsTrue (is_in s e t)
    wider s d e t l h = grind (arith, common_steps)

    more : (a b c x y : Bool) → (IsTrue a → IsTrue b) → (IsTrue x → IsTrue y) → IsTrue ((a && c) || x) → IsTrue ((b && c) || y)
    more true false c x y f g h = let k = f refl in absurd cc
    more true true true x y f g h = refl
    more true true false x y f g h = g h
    more false true true x y f g h = refl
    more false true false x y f g h = g h
    more false false c x y f g h = g h

-- a passage inside the stretch
one-passes : (s e a : ℕ) (p : Passage) (ps : List Passage) → Contains ps p → p.accepted ≡ Some a → s ≤ a → a ≤ p.given → p.given < e → IsTrue (passes_in s e ps)
one-passes s e a p [] there is since later soon = absurd (in-none p there)
one-passes s e a p (q ∷ ps) there is since later soon = by-place (first-or p q ps there) (one-passes s e a p ps) where
  inside : (s e a : ℕ) (p : Passage) → p.accepted ≡ Some a → s ≤ a → a ≤ p.given → p.given < e → IsTrue (is_since s p.accepted && is_in s e p.given)
  inside s e a p is since later soon = grind (arith, common_steps)

  by-place : (q ≡ p) ⊎ Contains ps p → (Contains ps p → p.accepted ≡ Some a → s ≤ a → a ≤ p.given → p.given < e → IsTrue (passes_in s e ps)) → IsTrue (passes_in s e (q ∷ ps))
  by-place (inl same) again =
      left-or (is_since s q.accepted && is_in s e q.given) (passes_in s e ps) (subst (λ x. IsTrue (is_since s x.accepted && is_in s e x.given)) (sym same) (inside s e a p is since later soon))
  by-place (inr rest) again = right-or (is_since s q.accepted && is_in s e q.given) (passes_in s e ps) (again rest is since later soon)

-- a frame is given in the first turn that begins `repeat` later, and taken in the first that begins `delay`
-- after that
pub passes-within : (pace : Pace) (start until s e : ℕ) (from to : List Turn) (acts : List Act) (passed : List Passage) → TurnsOften pace start until from → TurnsOften pace start until to
    → GivesOften pace start until from acts → Arrives pace start until to acts passed → start ≤ s → s + (pace.repeat + 2 * pace.turn + pace.delay) ≤ e → e ≤ until → IsTrue (passes_in s e passed)
passes-within pace start until s e from to acts passed turns-from turns-to gives arrives l m n =
    let t = turns-from (s + pace.repeat) (omega (arith, l)) (omega (arith, m, n)) in
    let t-begins = t.2 in
    let t-ends = t.4 in
    let g = gives s t.0 l (omega (arith, t-ends, m, n)) t.1 t-begins in
    let g-since = g.3 in
    let g-until = g.4 in
    let r = turns-to (g.0 + pace.delay) (omega (arith, l, g-since)) (omega (arith, g-until, t-ends, m, n)) in
    let r-ends = r.4 in
    let p = arrives g.0 g.1 r.0 g.2 (omega (arith, l, g-since)) (omega (arith, r-ends, g-until, t-ends, m, n)) r.1 r.2 in
    let p-given = p.4 in
    one-passes s e g.0 p.0 passed p.1 p.2 g-since p.3 (omega (arith, p-given, r-ends, g-until, t-ends, m))

most : (a b : ℕ) → (a ≤ max a b) × (b ≤ max a b)
most a b = grind arith

pub pace-gives-windows : JoinedAreNodes → PaceGivesWindows
pace-gives-windows are-joined pace start until turns w account history range k = record {
  ticks = λ v s in-net from to.
      longer-ticks (site_of w.net v) s (s + pace.full) (s + window_of pace) (account v) (w.node v) (let a = (most pace.full (pace.repeat + 2 * pace.turn + pace.delay)).0 in omega (arith, a))
      (k.ticks v s in-net from (let a = (most pace.full (pace.repeat + 2 * pace.turn + pace.delay)).0 in omega (arith, a, to)));
  links = λ u v s is from to.
      let nodes = are-joined w.net u v range.network is in
      let a = (most pace.full (pace.repeat + 2 * pace.turn + pace.delay)).1 in
      passes-within pace start until s (s + window_of pace) (turns u) (turns v) (history u v) (passages (at_first (w.link u v)) (history u v))
      (k.turns_often u nodes.0) (k.turns_often v nodes.1) (k.gives u v is) (k.arrives u v is) from (omega (arith, a)) to;
}

-- a ring of three: a frame every 8 ms, a turn every 2.2 ms, 0.1 ms on the way, and no loan
window-by-hand : window_of (record { turn = 2200; repeat = 8000; delay = 100; full = 2200 }) ≡ 12500
window-by-hand = refl

-- 51 windows are 637.5 ms
recovers-by-hand : (16 * 2 + 4 * 1 + 15) * 12500 ≡ 637500
recovers-by-hand = refl

-- a loan of a second makes the full ticks rare, and they decide
window-of-loans : window_of (record { turn = 2200; repeat = 8000; delay = 100; full = 1004400 }) ≡ 1004400
window-of-loans = refl
