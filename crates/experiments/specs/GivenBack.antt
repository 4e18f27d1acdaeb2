-- Schedules in which whoever has the lock gives it back after a given number of ticks of the node
-- that lent it.
use Rattle.std.specs.Prelude.{◌≡◌, ℕ, ◌-◌, ◌==◌, zero, suc, nat_lt, if◌then◌else◌, List, [], ◌∷◌, ◌++◌, Option, None, Some, replicate, slice_index_or, slice_set}
use Rattle.std.specs.List.{range_with_len}
use Rattle.std.proofs.Common.{◌∙◌, ap, sym, refl}
use Rattle.rand_pcg.specs.Lcg.{Lcg}
use Rattle.topology.specs.Network.{Network}
use Rattle.run_model.specs.World.{World}
use Rattle.run_model.specs.Step.{step}
use Rattle.run_model.specs.Run.{run}
use Rattle.run_model.specs.declared.event.Event.{Event}
use Rattle.run_model.specs.declared.event.Event.TheVariants.{Send, Take, Lose, Tick, Ask, Leave, Damage}
use Rattle.judge.specs.configuration.ConfigurationView.{world_of}
use Rattle.schedules.specs.Rounds.{round}
use Rattle.schedules.specs.Random.{draw_step, admitted}
use Rattle.schedules.specs.declared.random.Chances.{Chances}
use Rattle.experiments.specs.Scheduled.{leave_of}
use Rattle.experiments.specs.declared.giving_back.Lending.{Lending}
use Rattle.experiments.specs.declared.plan.Order.{Order}
use Rattle.experiments.specs.declared.plan.Order.TheVariants.{Rounds, Random}

-- What comes of a tick at a node, if a loan lasts one tick and `more` further ones, of which `left` are left at each node. If it
-- lends to nobody, its next loan has them all. A ticket that has none left leaves; any other has one less.
abbrev pub due : ℕ → ℕ → Option ℕ → List ℕ → Option ℕ × List ℕ
due more v None left = (None, slice_set left v more)
due more v (Some ticket) left =
    if slice_index_or left v 0 == 0 then (Some ticket, slice_set left v more)
    else (None, slice_set left v (slice_index_or left v 0 - 1))

-- the event by which the lock is given back at a node after its tick, if it is, and what is left
-- then; nothing if there is no such node
abbrev pub back_at : ℕ → World → List ℕ → ℕ → List Event × List ℕ
back_at more w left v =
    let d = due more v (w.node v).desk.lent left in
    if nat_lt v w.net.nodes then (leave_of v d.0, d.1) else ([], left)

-- the same at several nodes, one after the other
abbrev pub back_at_all : ℕ → World → List ℕ → List ℕ → List Event × List ℕ
back_at_all more w left [] = ([], left)
back_at_all more w left (v ∷ vs) =
    let one = back_at more w left v in
    let rest = back_at_all more (run w one.0) one.1 vs in
    (one.0 ++ rest.0, rest.1)

-- a round, in which each node ticks once; then the lock is given back if it is due
abbrev pub round_back : Network → ℕ → World → List ℕ → List Event × List ℕ
round_back net more w left =
    let back = back_at_all more (run w (round net)) left (range_with_len 0 net.nodes) in
    (round net ++ back.0, back.1)

-- n such rounds
abbrev pub rounds_back : Network → ℕ → World → List ℕ → ℕ → List Event
rounds_back net more w left zero = []
rounds_back net more w left (suc n) =
    let first = round_back net more w left in
    first.0 ++ rounds_back net more (run w first.0) first.1 n

-- what is given back after a step, at the node that ticked
abbrev pub back_after : ℕ → World → List ℕ → Event → List Event × List ℕ
back_after more w left (Tick v) = back_at more w left v
back_after more w left (Send u v) = ([], left)
back_after more w left (Take u v) = ([], left)
back_after more w left (Lose u v i) = ([], left)
back_after more w left (Ask v t) = ([], left)
back_after more w left (Leave v t) = ([], left)
back_after more w left (Damage h) = ([], left)

-- a step, and then that
abbrev pub step_back : ℕ → World → List ℕ → Event → List Event × List ℕ
step_back more w left e =
    let back = back_after more (step w e) left e in
    (e ∷ back.0, back.1)

-- n such steps, each drawn from a generator
abbrev pub random_back : ℕ → World → List ℕ → Chances → ℕ → Lcg → List Event
random_back more w left c zero g = []
random_back more w left c (suc n) g =
    let drawn = draw_step w.net c g in
    let first = step_back more w left (admitted w drawn.0) in
    first.0 ++ random_back more (run w first.0) first.1 c n drawn.1

-- what an order says from a world on, if each loan lasts one tick and `more` further ones
abbrev pub ordered_back : Network → ℕ → World → Order → List Event
ordered_back net more w (Rounds count) = rounds_back net more w (replicate 64 more) count
ordered_back net more w (Random steps chances g) = random_back more w (replicate 64 more) chances steps g

-- These events have happened, and these ticks are left.
pub record WentBack {A : Type 0} (old : Lending A) (back : List Event × List ℕ) (new : Lending A) : Type 0 where
  pub world_is : world_of new.configuration ≡ run (world_of old.configuration) back.0
  pub left_is : new.left ≡ back.1
  pub more_is : new.more ≡ old.more

run-append : (w : World) (xs ys : List Event) → run w (xs ++ ys) ≡ run (run w xs) ys
run-append w [] ys = refl
run-append w (x ∷ xs) ys = run-append (step w x) xs ys

-- nothing has happened
pub happens-nothing : {A : Type 0} (a : Lending A) → WentBack a ([], a.left) a
happens-nothing a = record { world_is = refl; left_is = refl; more_is = refl }

-- events have happened, and then others
pub happens-both : {A : Type 0} (a b c : Lending A) (xs ys : List Event) → WentBack a (xs, a.left) b → WentBack b (ys, b.left) c → WentBack a (xs ++ ys, a.left) c
happens-both a b c xs ys one two = record {
  world_is = two.world_is ∙ ap (λ (w : World). run w ys) one.world_is ∙ sym (run-append (world_of a.configuration) xs ys);
  left_is = two.left_is ∙ one.left_is;
  more_is = two.more_is ∙ one.more_is;
}
