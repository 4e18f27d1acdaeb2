-- Rows: what node 0 of two nodes does first, and what is not a first turn.
use Rattle.std.proofs.Common.{◌≡◌, ◌<◌, ◌≤◌, min, IsTrue, List, [], ◌∷◌, All, length, ap, refl, sym, subst, arith}
use Rattle.std.proofs.lemmas.Grind.{common_steps}
use Rattle.topology.specs.Network.{neighbours_of}
use Rattle.run_model.specs.World.{World}
use Rattle.run_model.specs.Step.{has_room}
use Rattle.run_model.specs.declared.event.Event.{Event}
use Rattle.run_model.specs.declared.event.Event.TheVariants.{Send, Take, Tick}
use Rattle.node_runner.specs.FirstTurn.{IsFirstTurn, before_tick, count_of, deeds_of, is_send_on, is_take_on, is_tick_of}

-- a take is its receiver's deed, any other event its sender's
row-deeds : deeds_of 0 (Tick 0 ∷ Tick 1 ∷ Send 0 1 ∷ Send 1 0 ∷ Take 0 1 ∷ Take 1 0 ∷ []) ≡ Tick 0 ∷ Send 0 1 ∷ Take 1 0 ∷ []
row-deeds = refl

row-ticks : count_of (is_tick_of 1) (Tick 0 ∷ Tick 1 ∷ Send 1 0 ∷ Tick 1 ∷ []) ≡ 2
row-ticks = refl

row-before : before_tick (Send 0 1 ∷ Take 1 0 ∷ Tick 0 ∷ Send 0 1 ∷ []) ≡ Send 0 1 ∷ Take 1 0 ∷ []
row-before = refl

tails : (e f : Event) (xs ys : List Event) → e ∷ xs ≡ f ∷ ys → ys ≡ xs
tails e f xs ys same = cc

module _ (w : World) (one : neighbours_of w.net 0 ≡ 1 ∷ []) where
  -- a tick, a send, and a take of the one item that was there
  row-whole : length (w.link 1 0) ≡ 1 → IsFirstTurn w 0 (Tick 0 ∷ Send 0 1 ∷ Take 1 0 ∷ Tick 0 ∷ [])
  row-whole held =
      let sent : All (λ u. IsTrue (has_room w 0 u) → 0 < count_of (is_send_on 0 u) (Send 0 1 ∷ Take 1 0 ∷ [])) (1 ∷ []) = λ k d within room. grind (arith, common_steps) in
      let taken : All (λ u. min 2 (length (w.link u 0)) ≤ count_of (is_take_on u 0) (Send 0 1 ∷ Take 1 0 ∷ [])) (1 ∷ []) = λ k d within. grind (arith, common_steps, held) in
      record {
        later = Send 0 1 ∷ Take 1 0 ∷ Tick 0 ∷ [];
        ticks = refl;
        sends = subst (All (λ u. IsTrue (has_room w 0 u) → 0 < count_of (is_send_on 0 u) (Send 0 1 ∷ Take 1 0 ∷ []))) (sym one) sent;
        takes = subst (All (λ u. min 2 (length (w.link u 0)) ≤ count_of (is_take_on u 0) (Send 0 1 ∷ Take 1 0 ∷ []))) (sym one) taken;
      }

  -- a send of the second turn comes too late
  row-late : IsTrue (has_room w 0 1) → IsFirstTurn w 0 (Tick 0 ∷ Tick 0 ∷ Send 0 1 ∷ []) → ⊥
  row-late room first =
      let sends = subst (All (λ u. IsTrue (has_room w 0 u) → 0 < count_of (is_send_on 0 u) (before_tick first.later))) one first.sends in
      let some = sends 0 0 (omega arith) room in
      let none : count_of (is_send_on 0 1) (before_tick first.later) ≡ 0 = ap (λ es. count_of (is_send_on 0 1) (before_tick es)) (tails _ _ _ _ first.ticks) in
      omega (arith, some, none)

  -- one take of three items is too few
  row-few : length (w.link 1 0) ≡ 3 → IsFirstTurn w 0 (Tick 0 ∷ Send 0 1 ∷ Take 1 0 ∷ []) → ⊥
  row-few held first =
      let takes = subst (All (λ u. min 2 (length (w.link u 0)) ≤ count_of (is_take_on u 0) (before_tick first.later))) one first.takes in
      let two : min 2 (length (w.link 1 0)) ≤ count_of (is_take_on 1 0) (before_tick first.later) = takes 0 0 (omega arith) in
      let single : count_of (is_take_on 1 0) (before_tick first.later) ≡ 1 = ap (λ es. count_of (is_take_on 1 0) (before_tick es)) (tails _ _ _ _ first.ticks) in
      let least : min 2 (length (w.link 1 0)) ≡ 2 = ap (min 2) held in
      omega (arith, two, single, least)
