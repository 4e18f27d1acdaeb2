-- Rows: whose deed an event is, what one send or take is, and which worlds stay within their
-- capacity.
use Rattle.std.proofs.Common.{◌≡◌, ℕ, ◌+◌, ◌≤◌, true, false, [], ◌∷◌, map, Some, None, length, inl, inr, refl, arith}
use Rattle.link_model.specs.declared.item.Item.TheVariants.{Noise}
use Rattle.run_model.specs.World.{World}
use Rattle.run_model.specs.Start.{default_world}
use Rattle.run_model.specs.declared.event.Event.TheVariants.{Send, Take, Tick, Ask}
use Rattle.run_model.proofs.RowsTwo.{two_nodes, each-link}
use Rattle.weaving.specs.declared.journal.Stamped.{Stamped}
use Rattle.weaving.specs.Account.{Ticked, Sent, Took}
use Rattle.node_runner.specs.Due.{events_of, IsWithin}
use Rattle.node_runner.specs.FirstTurn.{is_deed_of, is_send_on, is_take_on, is_tick}
use Rattle.node_runner.specs.Ports.{opening, stamped, with_sent, with_taken}
use Rattle.node_runner.specs.Runner.{IsOneSend, IsOneTake}
use Rattle.node_runner.specs.Stamps.{last_place, last_stamp}

abbrev noise : ℕ → Stamped
noise t = record { stamp = t; item = Noise }

-- ---- whose deed an event is

-- a take from 1 by 0 is the deed of 0; what a client does is no node's deed
takes-itself : map (λ v. is_deed_of v (Take 1 0)) (0 ∷ 1 ∷ []) ≡ true ∷ false ∷ []
takes-itself = refl

asks-nobody : is_deed_of 0 (Ask 0 5) ≡ false
asks-nobody = refl

ticks : map is_tick (Tick 3 ∷ Send 0 1 ∷ []) ≡ true ∷ false ∷ []
ticks = refl

sends-on : map (is_send_on 0 1) (Send 0 1 ∷ Send 1 0 ∷ []) ≡ true ∷ false ∷ []
sends-on = refl

takes-on : map (is_take_on 0 1) (Take 0 1 ∷ Send 0 1 ∷ []) ≡ true ∷ false ∷ []
takes-on = refl

says-events : events_of 0 (Ticked 1 ∷ Sent 1 (noise 2) ∷ Took 1 (noise 3) ∷ []) ≡ Tick 0 ∷ Send 0 1 ∷ Take 1 0 ∷ []
says-events = refl

-- ---- one send, and one take

one-send : IsOneSend 1 (Sent 1 (noise 2) ∷ [])
one-send = inr (noise 2, refl)

no-send : IsOneSend 1 []
no-send = inl refl

one_not-other : ¬ IsOneSend 1 (Sent 2 (noise 2) ∷ [])
one_not-other (inl none) = grind (arith, none)
one_not-other (inr some) = grind (arith, some.1)

one_not-two : ¬ IsOneSend 1 (Sent 1 (noise 2) ∷ Sent 1 (noise 3) ∷ [])
one_not-two (inl none) = grind (arith, none)
one_not-two (inr some) = grind (arith, some.1)

one-take : IsOneTake 1 (Took 1 (noise 2) ∷ [])
one-take = inr (noise 2, refl)

one_not-sent : ¬ IsOneTake 1 (Sent 1 (noise 2) ∷ [])
one_not-sent (inl none) = grind (arith, none)
one_not-sent (inr some) = grind (arith, some.1)

-- ---- what went out and came in

-- what was on a link at the start has the stamp 0
opens : opening (Noise ∷ []) ≡ noise 0 ∷ []
opens = refl

stamps-item : stamped 4 Noise ≡ noise 4
stamps-item = refl

sends-more : map (with_sent (noise 1 ∷ []) Noise) (Some 4 ∷ None ∷ []) ≡ (noise 1 ∷ noise 4 ∷ []) ∷ (noise 1 ∷ []) ∷ []
sends-more = refl

takes-more : map (with_taken (noise 1 ∷ [])) (Some (noise 4) ∷ None ∷ []) ≡ (noise 1 ∷ noise 4 ∷ []) ∷ (noise 1 ∷ []) ∷ []
takes-more = refl

-- the last place is well below the last stamp
last : last_stamp ≡ last_place + last_place
last = refl

-- ---- capacity

abbrev start : World
start = default_world two_nodes

within : IsWithin start
within = each-link (λ u v. length (start.link u v) ≤ start.net.capacity) (omega arith) (omega arith)

-- a link for one item that holds two
abbrev filled : World
filled = record start { link = λ u v. Noise ∷ Noise ∷ [] }

within_not-filled : ¬ IsWithin filled
within_not-filled holds = let few : 2 ≤ 1 = holds 0 1 refl in omega (arith, few)
