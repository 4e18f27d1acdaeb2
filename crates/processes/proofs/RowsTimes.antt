-- Two processes that keep to a window, to a pace and to premises, and some that do not; what marks are;
-- and what is left when a connection ends.
use Rattle.std.proofs.Common.{◌≡◌, ◌≢◌, ◌⊎◌, ◌<◌, ◌≤◌, ◌+◌, inl, inr, ℕ, zero, suc, List, [], ◌∷◌, ◌++◌, Some, None, IsTrue, IsFalse, Bool, true, false, refl, ap, sym, subst, arith}
use Rattle.std.specs.List.{AllByRecursion, Contains}
use Rattle.topology.specs.Network.{are_joined}
use Rattle.topology.specs.declared.frame.Frame.{Frame}
use Rattle.topology.specs.declared.frame.Ranges.{Ranges}
use Rattle.data_link.specs.Port.{frame_of}
use Rattle.link_model.specs.declared.item.Item.TheVariants as item
use Rattle.lock_desk.specs.Desk.{lends}
use Rattle.node_core.specs.Site.{site_of}
use Rattle.run_model.specs.declared.event.Event.TheVariants.{Send, Take, Ask, Leave, Lose, Tick}
use Rattle.run_model.proofs.RowsTwo.{two_nodes, each-node, each-link, calm}
use Rattle.node_core.specs.Deeds.{Ticks, Sends, Takes, Asks, Leaves}
use Rattle.recovery_times.specs.declared.premises.Premises.{Premises}
use Rattle.processes.specs.Accounts.{Timed}
use Rattle.processes.specs.Connections.{accepted_frames, given_frames, left_after, left_over, all_lost, CarryActs}
use Rattle.processes.specs.Links.{Act, Accepts, Gives, Loses, accept_at, give_at, IsBefore}
use Rattle.processes.specs.Loans.{led, Point, NobodyBorrows, KeepsPremises}
use Rattle.processes.specs.Marks.{Mark, Does, Drops, deed_event, deed_act, done_by}
use Rattle.processes.specs.Through.{IsDone}
use Rattle.processes.specs.TimeLaws.{AreBefore, AreSince, world_after}
use Rattle.processes.specs.Timing.{at_first, passages, passes_in, ticks_fully_in, MovesWithin}
use Rattle.processes.specs.Turns.{Turn, Pace, TurnsOften, GivesOften, Arrives, KeepsPace, window_of}
use Rattle.processes.proofs.RowsLinks.{numbered, nothing-yet}
use Rattle.processes.proofs.Lists.{in-none, in-one, of-one}

abbrev said : Frame
said = frame_of ((calm.node 0).port 1)

-- ---- what marks are

-- what a node takes from another is a take on the link that leads to it
takes-from : deed_event 1 (Takes 0 said) ≡ Take 0 1
takes-from = refl

takes_not-to : deed_event 1 (Takes 0 said) ≢ Take 1 0
takes_not-to = grind arith

sends-to : deed_event 1 (Sends 0 said) ≡ Send 1 0
sends-to = refl

given-on : deed_act 0 1 5 1 (Takes 0 said) ≡ Gives 5 said ∷ []
given-on = refl

given_not-back : deed_act 1 0 5 1 (Takes 0 said) ≡ []
given_not-back = refl

accepted-on : deed_act 1 0 5 1 (Sends 0 said) ≡ Accepts 5 said ∷ []
accepted-on = refl

of-its-node : done_by 1 (Does 5 1 (Asks 7)) ≡ record { instant = 5; deed = Asks 7 } ∷ []
of-its-node = refl

of-no-other : done_by 0 (Does 5 1 (Asks 7)) ≡ []
of-no-other = refl

accepted-at : accept_at 2 5 (Sends 2 said) ≡ Accepts 5 said ∷ []
accepted-at = refl

given_not-at : give_at 2 5 (Sends 2 said) ≡ []
given_not-at = refl

-- a loss comes first at its instant; a frame is given later than it was accepted
before-loss : IsBefore (Loses 5 0) (Gives 5 said)
before-loss = inl (omega arith)

before_not-at-once : ¬ IsBefore (Accepts 5 said) (Gives 5 said)
before_not-at-once (inl less) = omega (arith, less)
before_not-at-once (inr (same, _)) = omega (arith, same)

-- a tick goes through, and a take on an empty link does not
done-tick : IsDone calm (Tick 0)
done-tick = refl

done_not-empty : ¬ IsDone calm (Take 0 1)
done_not-empty d = omega (arith, d.1)

-- ---- before an instant, and since

before-two : AreBefore 2 (Does 1 0 Ticks ∷ [])
before-two = (omega arith, tt)

before_not-two : ¬ AreBefore 2 (Drops 2 0 1 0 ∷ [])
before_not-two b = omega (arith, b.0)

since-two : AreSince 2 (Drops 2 0 1 0 ∷ [])
since-two = (omega arith, tt)

since_not-three : ¬ AreSince 3 (Does 2 1 Ticks ∷ [])
since_not-three s = omega (arith, s.0)

after-send : (world_after calm (Does 1 0 (Sends 1 said) ∷ [])).link 0 1 ≡ item.Frame said ∷ []
after-send = refl

-- ---- what is left on a connection

accepted-in-order : accepted_frames (Accepts 1 (numbered 1) ∷ Gives 2 (numbered 1) ∷ Accepts 3 (numbered 2) ∷ []) ≡ numbered 1 ∷ numbered 2 ∷ []
accepted-in-order = refl

given-one : given_frames (Accepts 1 (numbered 1) ∷ Gives 2 (numbered 1) ∷ Accepts 3 (numbered 2) ∷ []) ≡ numbered 1 ∷ []
given-one = refl

left-second : left_after (numbered 1 ∷ []) (Accepts 1 (numbered 2) ∷ Gives 2 (numbered 1) ∷ []) ≡ numbered 2 ∷ []
left-second = refl

lost-both : all_lost 4 (numbered 1 ∷ numbered 2 ∷ []) ≡ Loses 4 0 ∷ Loses 4 0 ∷ []
lost-both = refl

-- what an ended connection left is not left on the link
left_not-of-ended : left_over [] (record { acts = Accepts 1 (numbered 1) ∷ []; instant = 4 } ∷ []) [] ≡ []
left_not-of-ended = refl

abbrev sizes : Ranges
sizes = record { nodes = 3; counter = 5; ring = 13 }

-- only the first connection may hold junk: of two connections, each in turn carries one frame
carry-two : CarryActs sizes 1 [] (record { acts = Accepts 1 (numbered 1) ∷ []; instant = 4 } ∷ []) (Accepts 5 (numbered 2) ∷ [])
carry-two = (
  record { bytes = nothing-yet sizes [] (numbered 1 ∷ []); within = (omega arith, tt) },
  record { bytes = nothing-yet sizes [] (numbered 2 ∷ []); within = (omega arith, tt) },
)

carry_not-two-at-once : ¬ CarryActs sizes 1 [] [] (Accepts 1 (numbered 1) ∷ Accepts 2 (numbered 2) ∷ [])
carry_not-two-at-once c = omega (arith, c.within.1.0)

-- ---- a window: from 0 to 3 each node ticks at 1, and each link is given a frame at 1, which comes at 2

abbrev ticks_once : ℕ → List Timed
ticks_once v = record { instant = 1; deed = Ticks } ∷ []

abbrev passes_once : ℕ → ℕ → List Act
passes_once u v = Accepts 1 said ∷ Gives 2 said ∷ []

ticks-at : (v s : ℕ) → v < 2 → s + 3 ≤ 3 → IsTrue (ticks_fully_in (site_of two_nodes v) s (s + 3) (ticks_once v) (calm.node v))
ticks-at v zero below to = each-node (λ v. IsTrue (ticks_fully_in (site_of two_nodes v) 0 3 (ticks_once v) (calm.node v))) refl refl v below
ticks-at v (suc s) below to = absurd (omega (arith, to))

passes-at : (u v s : ℕ) → IsTrue (are_joined two_nodes.edges u v) → s + 3 ≤ 3 → IsTrue (passes_in s (s + 3) (passages (at_first (calm.link u v)) (passes_once u v)))
passes-at u v zero joined to = each-link (λ u v. IsTrue (passes_in 0 3 (passages (at_first (calm.link u v)) (passes_once u v)))) refl refl u v joined
passes-at u v (suc s) joined to = absurd (omega (arith, to))

moves : MovesWithin 3 0 3 calm ticks_once passes_once
moves = record { ticks = λ v s below from to. ticks-at v s below to; links = λ u v s joined from to. passes-at u v s joined to }

-- not so in a window that is over before they tick, nor if a link gives nothing
moves_not-shorter : ¬ MovesWithin 1 0 3 calm ticks_once passes_once
moves_not-shorter m = let e : ◌≡◌ {A = Bool} false true = m.ticks 0 0 (omega arith) (omega arith) (omega arith) in absurd cc

moves_not-silent : ¬ MovesWithin 3 0 3 calm ticks_once (λ u v. [])
moves_not-silent m = let e : ◌≡◌ {A = Bool} false true = m.links 0 1 0 refl (omega arith) (omega arith) in absurd cc

-- ---- a pace: each node has a turn from 1 to 2

abbrev three : Pace
three = record { turn = 3; repeat = 1; delay = 0; full = 3 }

-- two turns of three, a repetition of one: longer than a full tick takes
window-seven : window_of three ≡ 7
window-seven = refl

window-full : window_of (record three { full = 9 }) ≡ 9
window-full = refl

abbrev a_turn : Turn
a_turn = record { begins = 1; ends = 2 }

often : (v : ℕ) → v < 2 → TurnsOften three 0 3 (a_turn ∷ [])
often v below zero from to = (a_turn, in-one a_turn, omega arith, omega arith, omega arith)
often v below (suc s) from to = absurd (omega (arith, to))

gives-often : (u v : ℕ) → GivesOften three 0 3 (a_turn ∷ []) (passes_once u v)
gives-often u v s t from ends there begins =
    let b : t.begins ≡ 1 = ap (λ x. x.begins) (of-one a_turn t there) in
    let e : t.ends ≡ 2 = ap (λ x. x.ends) (of-one a_turn t there) in
    (1, said, (0, omega arith, refl), omega (arith, b, begins), omega (arith, e))

accepted-once : (a : ℕ) (f : Frame) → Contains (Accepts 1 said ∷ Gives 2 said ∷ []) (Accepts a f) → a ≡ 1
accepted-once a f (zero, l, is) = (let same : Accepts 1 said ≡ Accepts a f = is in let n : 1 ≡ a = cc in sym n)
accepted-once a f (suc zero, l, is) = (let same : Gives 2 said ≡ Accepts a f = is in absurd cc)
accepted-once a f (suc (suc k), l, is) = absurd (omega (arith, l))

arrives-in-turn : Arrives three 0 3 (a_turn ∷ []) (Accepts 1 said ∷ Gives 2 said ∷ []) (record { accepted = Some 1; given = 2 } ∷ [])
arrives-in-turn a f t accepted from ends there begins =
    let n : a ≡ 1 = accepted-once a f accepted in
    let e : t.ends ≡ 2 = ap (λ x. x.ends) (of-one a_turn t there) in
    (record { accepted = Some 1; given = 2 }, in-one (record { accepted = Some 1; given = 2 }), ap (λ k. Some k) (sym n), omega (arith, n), omega (arith, e))

arrives : (u v : ℕ) → IsTrue (are_joined two_nodes.edges u v) → Arrives three 0 3 (a_turn ∷ []) (passes_once u v) (passages (at_first (calm.link u v)) (passes_once u v))
arrives = each-link (λ u v. Arrives three 0 3 (a_turn ∷ []) (passes_once u v) (passages (at_first (calm.link u v)) (passes_once u v))) arrives-in-turn arrives-in-turn

keeps : KeepsPace three 0 3 (λ v. a_turn ∷ []) calm ticks_once passes_once
keeps = record {
  turns_often = often;
  gives = λ u v joined. gives-often u v;
  arrives = arrives;
  ticks = λ v s below from to. ticks-at v s below to;
}

-- a node without a turn keeps no pace
keeps_not-without : ¬ KeepsPace three 0 3 (λ v. []) calm ticks_once passes_once
keeps_not-without k = let t = k.turns_often 0 (omega arith) 0 (omega arith) (omega arith) in in-none t.0 t.1

-- ---- premises: the same, and nobody borrows

abbrev believed : Premises
believed = record { turn = 3; delay = 0; loan = 0; repeat = 1 }

abbrev OneCut : Timed → List Timed → Type 0
OneCut t xs = (xs ≡ []) ⊎ (xs ≡ t ∷ [])

one-cut : (t : Timed) (xs ys : List Timed) → t ∷ [] ≡ xs ++ ys → OneCut t xs
one-cut t [] ys e = inl refl
one-cut t (x ∷ []) ys e = inr cc
one-cut t (x ∷ y ∷ xs) ys e = absurd cc

abbrev once : Timed
once = record { instant = 1; deed = Ticks }

free-after : (v : ℕ) → v < 2 → IsFalse (lends (led (site_of two_nodes v) (once ∷ []) (calm.node v)).desk)
free-after = each-node (λ v. IsFalse (lends (led (site_of two_nodes v) (once ∷ []) (calm.node v)).desk)) refl refl

free-before : (v : ℕ) → v < 2 → IsFalse (lends (led (site_of two_nodes v) [] (calm.node v)).desk)
free-before = each-node (λ v. IsFalse (lends (led (site_of two_nodes v) [] (calm.node v)).desk)) refl refl

nobody : (v : ℕ) → v < 2 → NobodyBorrows (site_of two_nodes v) 0 3 (once ∷ []) (calm.node v)
nobody v below a p from to = elim (one-cut once p.before p.after p.whole) [
  | inl none ↦ subst (λ ts. IsFalse (lends (led (site_of two_nodes v) ts (calm.node v)).desk)) (sym none) (free-before v below)
  | inr one ↦ subst (λ ts. IsFalse (lends (led (site_of two_nodes v) ts (calm.node v)).desk)) (sym one) (free-after v below)
]

premises : KeepsPremises believed 0 3 (λ v. a_turn ∷ []) calm ticks_once passes_once
premises = record {
  in_time = λ v. (tt, tt);
  turns_often = often;
  gives = λ u v joined. gives-often u v;
  arrives = arrives;
  ticks = λ v below t there from ends.
      let b : t.begins ≡ 1 = ap (λ x. x.begins) (of-one a_turn t there) in
      let e : t.ends ≡ 2 = ap (λ x. x.ends) (of-one a_turn t there) in
      inl (1, in-one once, omega (arith, b), omega (arith, e));
  loans = nobody;
}

-- not if a link accepts nothing in a turn that comes later than the repetition
premises_not-silent : ¬ KeepsPremises believed 0 3 (λ v. a_turn ∷ []) calm ticks_once (λ u v. [])
premises_not-silent k =
    let g = k.gives 0 1 refl 0 a_turn (omega arith) (omega arith) (in-one a_turn) (omega arith) in in-none (Accepts g.0 g.1) g.2
