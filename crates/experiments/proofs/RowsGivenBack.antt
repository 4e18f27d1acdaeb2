-- Rows: when a ticket leaves, what is given back, and whole schedules on two nodes of which one lends to ticket 7.
use Rattle.std.proofs.Common.{◌≡◌, ◌≢◌, false, List, [], ◌∷◌, ◌++◌, Some, None, refl, arith}
use Rattle.run_model.specs.World.{World}
use Rattle.run_model.specs.Start.{default_world}
use Rattle.run_model.specs.Step.{with_desk}
use Rattle.run_model.specs.declared.event.Event.{Event}
use Rattle.run_model.specs.declared.event.Event.TheVariants.{Leave, Send, Take, Tick}
use Rattle.run_model.proofs.RowsTwo.{two_nodes, calm}
use Rattle.schedules.specs.damage_tool.Draws.{draw}
use Rattle.experiments.specs.declared.plan.Order.TheVariants as order
use Rattle.experiments.specs.GivenBack.{due, back_at, back_at_all, back_after, rounds_back}
use Rattle.experiments.specs.Plan.{planned, turns}
use Rattle.experiments.specs.Scheduled.{plain}
use Rattle.experiments.proofs.RowsMeasured.{lending, still}

-- ---- loans of two ticks

-- nobody borrows at node 0, so the next loan there has its further tick
due-nobody : due 1 0 None (0 ∷ 0 ∷ []) ≡ (None, 1 ∷ 0 ∷ [])
due-nobody = refl

-- the first tick of a loan leaves it none
due-first : due 1 1 (Some 7) (1 ∷ 1 ∷ []) ≡ (None, 1 ∷ 0 ∷ [])
due-first = refl

-- at the second tick its ticket leaves
due-second : due 1 1 (Some 7) (1 ∷ 0 ∷ []) ≡ (Some 7, 1 ∷ 1 ∷ [])
due-second = refl

due_not-early : (due 1 1 (Some 7) (1 ∷ 1 ∷ [])).0 ≢ Some 7
due_not-early = grind arith

-- ---- what is given back

backs : (back_at_all 0 lending (0 ∷ 0 ∷ []) (0 ∷ 1 ∷ [])).0 ≡ Leave 1 7 ∷ []
backs = refl

backs_not-early : (back_at_all 1 lending (1 ∷ 1 ∷ []) (0 ∷ 1 ∷ [])).0 ≢ Leave 1 7 ∷ []
backs_not-early = grind arith

-- among random steps only the node that ticks is looked at
after-tick : (back_after 0 lending (0 ∷ 0 ∷ []) (Tick 1)).0 ≡ Leave 1 7 ∷ []
after-tick = refl

after_not-send : (back_after 0 lending (0 ∷ 0 ∷ []) (Send 1 0)).0 ≢ Leave 1 7 ∷ []
after_not-send = grind arith

-- a node that is none gives nothing back, whatever is left there
backs-no_node : back_at 0 lending (0 ∷ 0 ∷ []) 2 ≡ ([], 0 ∷ 0 ∷ [])
backs-no_node = refl

-- ---- whole schedules

abbrev round_of_two : List Event
round_of_two = Tick 0 ∷ Tick 1 ∷ Send 0 1 ∷ Take 0 1 ∷ Send 0 1 ∷ Take 0 1 ∷ Send 1 0 ∷ Take 1 0 ∷ Send 1 0 ∷ Take 1 0 ∷ []

-- Node 0, which is privileged, lends to ticket 7. Without a lease the loan lasts until the ticket leaves.
abbrev lent_there : World
lent_there = with_desk calm 0 (record { waiting = []; lent = Some 7; left = 0; served = false })

turns-one : turns two_nodes lent_there (Some 1) (order.Rounds 1) ≡ round_of_two ++ Leave 0 7 ∷ []
turns-one = refl

-- a loan of two ticks lasts two rounds
turns-two : turns two_nodes lent_there (Some 2) (order.Rounds 2) ≡ round_of_two ++ round_of_two ++ Leave 0 7 ∷ []
turns-two = refl

turns_not-early : turns two_nodes lent_there (Some 2) (order.Rounds 1) ≢ round_of_two ++ Leave 0 7 ∷ []
turns_not-early = grind arith

-- once it is given back, it is not given back again
turns-once : turns two_nodes lent_there (Some 1) (order.Rounds 2) ≡ round_of_two ++ Leave 0 7 ∷ round_of_two
turns-once = refl

-- 0 counts as 1
turns-none : turns two_nodes lent_there (Some 0) (order.Rounds 1) ≡ round_of_two ++ Leave 0 7 ∷ []
turns-none = refl

-- a loan without an end
turns-endless : turns two_nodes lent_there None (order.Rounds 1) ≡ round_of_two
turns-endless = refl

-- the words say a tick of node 0, and then a send from node 1
turns-random : turns two_nodes lent_there (Some 1) (order.Random 2 plain still) ≡ Tick 0 ∷ Leave 0 7 ∷ Send 1 0 ∷ []
unfolding draw
turns-random = refl

turns_not-random : turns two_nodes lent_there (Some 2) (order.Random 2 plain still) ≢ Tick 0 ∷ Leave 0 7 ∷ Send 1 0 ∷ []
unfolding draw
turns_not-random = grind arith

-- nobody lends in the default world, so nothing is given back
backs-none : rounds_back two_nodes 0 (default_world two_nodes) (0 ∷ 0 ∷ []) 1 ≡ round_of_two
backs-none = refl

plans-none : planned two_nodes None (Some 1) (order.Rounds 1) ≡ round_of_two
plans-none = refl
