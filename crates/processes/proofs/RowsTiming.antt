-- Small accounts, turns and histories, checked by hand.
use Rattle.std.proofs.Common.{◌≡◌, ℕ, [], ◌∷◌, None, Some, true, false, refl, ap, arith}
use Rattle.std.proofs.lemmas.Grind.{common_steps}
use Rattle.topology.specs.declared.frame.Frame.{Frame}
use Rattle.node_core.specs.Site.{Site}
use Rattle.node_core.specs.State.{LocalState}
use Rattle.node_core.specs.Step.{ticked}
use Rattle.node_core.specs.Deeds.{Ticks, Leaves}
use Rattle.processes.specs.Links.{Accepts, Gives, Loses}
use Rattle.processes.specs.Timing.{passages, passes_in, ticks_fully_in}
use Rattle.processes.specs.Turns.{Turn, Pace, TurnsOften, GivesOften, Arrives}
use Rattle.processes.proofs.Lists.{in-none, in-one, of-one}

-- one frame was under way; a second is accepted at 5; they are given at 7 and at 9
oldest-first : (f : Frame) → passages (None ∷ []) (Accepts 5 f ∷ Gives 7 f ∷ Gives 9 f ∷ []) ≡ record { accepted = None; given = 7 } ∷ record { accepted = Some 5; given = 9 } ∷ []
oldest-first f = refl

lost-is-not-passed : (f : Frame) → passages [] (Accepts 5 f ∷ Loses 6 0 ∷ Accepts 7 f ∷ Gives 8 f ∷ []) ≡ record { accepted = Some 7; given = 8 } ∷ []
lost-is-not-passed f = refl

both-inside : passes_in 5 10 (record { accepted = None; given = 7 } ∷ record { accepted = Some 5; given = 9 } ∷ []) ≡ true
both-inside = refl

accepted-too-early : passes_in 6 10 (record { accepted = None; given = 7 } ∷ record { accepted = Some 5; given = 9 } ∷ []) ≡ false
accepted-too-early = refl

given-too-late : passes_in 5 9 (record { accepted = None; given = 7 } ∷ record { accepted = Some 5; given = 9 } ∷ []) ≡ false
given-too-late = refl

-- ---- full ticks

tick-inside : (site : Site) (s : LocalState) → (ticked site s).desk.lent ≡ None → ticks_fully_in site 3 4 (record { instant = 3; deed = Ticks } ∷ []) s ≡ true
tick-inside site s free = grind (arith, common_steps)

tick-after : (site : Site) (s : LocalState) → ticks_fully_in site 3 4 (record { instant = 4; deed = Ticks } ∷ []) s ≡ false
tick-after site s = refl

loan-stands : (site : Site) (s : LocalState) (t : ℕ) → (ticked site s).desk.lent ≡ Some t → ticks_fully_in site 3 4 (record { instant = 3; deed = Ticks } ∷ []) s ≡ false
loan-stands site s t lent = grind (arith, common_steps)

leave-is-no-tick : (site : Site) (s : LocalState) → ticks_fully_in site 3 4 (record { instant = 3; deed = Leaves 7 } ∷ []) s ≡ false
leave-is-no-tick site s = refl

-- ---- a pace

abbrev five : Pace
five = record { turn = 5; repeat = 8; delay = 1; full = 5 }

abbrev turn_at : ℕ → ℕ → Turn
turn_at begins ends = record { begins = begins; ends = ends }

a-turn-in-time : TurnsOften five 0 5 (turn_at 1 3 ∷ [])
a-turn-in-time s from to = (turn_at 1 3, in-one (turn_at 1 3), omega (arith, to), omega arith, omega arith)

not-a-turn-too-late : TurnsOften five 0 5 (turn_at 4 6 ∷ []) → ⊥
not-a-turn-too-late often =
    let t = often 0 (omega arith) (omega arith) in
    let late = t.4 in
    let ends : t.0.ends ≡ 6 = ap (λ x. x.ends) (of-one (turn_at 4 6) t.0 t.1) in
    omega (arith, late, ends)

-- a port that stays silent for longer than the repetition time
not-a-silent-port : GivesOften five 0 20 (turn_at 9 10 ∷ []) [] → ⊥
not-a-silent-port gives =
    let g = gives 0 (turn_at 9 10) (omega arith) (omega arith) (in-one (turn_at 9 10)) (omega arith) in in-none (Accepts g.0 g.1) g.2

-- a connection that is down
not-a-dead-connection : (f : Frame) → Arrives five 0 20 (turn_at 9 10 ∷ []) (Accepts 2 f ∷ []) [] → ⊥
not-a-dead-connection f arrives =
    let p = arrives 2 f (turn_at 9 10) (in-one (Accepts 2 f)) (omega arith) (omega arith) (in-one (turn_at 9 10)) (omega arith) in in-none p.0 p.1

a-port-in-time : (f : Frame) → GivesOften five 0 20 (turn_at 9 10 ∷ []) (Accepts 4 f ∷ [])
a-port-in-time f s t from ends there begins =
    let b : t.begins ≡ 9 = ap (λ x. x.begins) (of-one (turn_at 9 10) t there) in
    let e : t.ends ≡ 10 = ap (λ x. x.ends) (of-one (turn_at 9 10) t there) in
    (4, f, in-one (Accepts 4 f), omega (arith, b, begins), omega (arith, e))

a-frame-in-time : (f : Frame) → Arrives five 0 20 (turn_at 9 10 ∷ []) (Accepts 2 f ∷ []) (record { accepted = Some 2; given = 9 } ∷ [])
a-frame-in-time f a g t there from ends turn begins =
    let same : Accepts a g ≡ Accepts 2 f = of-one (Accepts 2 f) (Accepts a g) there in
    let n : 2 ≡ a = cc in
    let e : t.ends ≡ 10 = ap (λ x. x.ends) (of-one (turn_at 9 10) t turn) in
    (record { accepted = Some 2; given = 9 }, in-one (record { accepted = Some 2; given = 9 }), ap (λ k. Some k) n, omega (arith, n), omega (arith, e))
