-- Rows: rounds of two nodes of which one, or a link between them, is slow. The shares were worked out by hand.
use Rattle.std.proofs.Common.{◌≡◌, ◌≢◌, true, false, [], ◌∷◌, ◌++◌, refl, arith}
use Rattle.configuration.specs.run_model.Start.{default_world}
use Rattle.configuration.specs.run_model.Sweep.{has_full_tick, is_renewed}
use Rattle.configuration.specs.run_model.declared.event.Event.TheVariants.{Send, Take, Tick}
use Rattle.damage_tool.specs.Draws.{draw}
use Rattle.schedules.specs.Rounds.{round}
use Rattle.schedules.specs.Slow.{has_part, is_part, others, parts, slow_link, slow_node, slow_round, slow_rounds}
use Rattle.schedules.specs.declared.slow.Slow.TheVariants.{Link, Node}
use Rattle.schedules.proofs.RowsRandom.{from_one, still}
use Rattle.schedules.proofs.RowsRounds.{noisy, two_nodes}

-- ---- in which rounds the slow one has its part

-- a quarter of them are the rounds 3, 7, 11 ..
quarter-first : has_part 25 3 ≡ true
quarter-first = refl

quarter-next : has_part 25 7 ≡ true
quarter-next = refl

quarter_not-zero : has_part 25 0 ≡ false
quarter_not-zero = refl

quarter_not-two : has_part 25 2 ≡ false
quarter_not-two = refl

quarter_not-four : has_part 25 4 ≡ false
quarter_not-four = refl

-- thirty of a hundred are three of ten: the rounds 3, 6 and 9
thirty-of_ten : parts 30 10 ≡ 3
thirty-of_ten = refl

thirty-second : has_part 30 6 ≡ true
thirty-second = refl

thirty_not-seven : has_part 30 7 ≡ false
thirty_not-seven = refl

-- one of a hundred is the last of each hundred
one-of_hundred : has_part 1 99 ≡ true
one-of_hundred = refl

one-next : has_part 1 199 ≡ true
one-next = refl

one_not-first : has_part 1 0 ≡ false
one_not-first = refl

one_not-later : has_part 1 198 ≡ false
one_not-later = refl

-- a hundred of a hundred are all, and none is none
all-first : has_part 100 0 ≡ true
all-first = refl

all-later : has_part 100 1234 ≡ true
all-later = refl

none-later : has_part 0 99 ≡ false
none-later = refl

-- ---- what its part is

-- the other direction of the edge is not slow, nor are the ticks of its ends
link-sends : is_part (Link 0 1) (Send 0 1) ≡ true
link-sends = refl

link-takes : is_part (Link 0 1) (Take 0 1) ≡ true
link-takes = refl

link_not-back : is_part (Link 0 1) (Send 1 0) ≡ false
link_not-back = refl

link_not-tick : is_part (Link 0 1) (Tick 0) ≡ false
link_not-tick = refl

-- a slow node's links carry their items as ever
node-ticks : is_part (Node 1) (Tick 1) ≡ true
node-ticks = refl

node_not-other : is_part (Node 1) (Tick 0) ≡ false
node_not-other = refl

node_not-sends : is_part (Node 1) (Send 1 0) ≡ false
node_not-sends = refl

without-link : others (Link 0 1) (round two_nodes) ≡ Tick 0 ∷ Tick 1 ∷ Send 1 0 ∷ Take 1 0 ∷ Send 1 0 ∷ Take 1 0 ∷ []
without-link = refl

without-node : others (Node 1) (round two_nodes)
    ≡ Tick 0 ∷ Send 0 1 ∷ Take 0 1 ∷ Send 0 1 ∷ Take 0 1 ∷ Send 1 0 ∷ Take 1 0 ∷ Send 1 0 ∷ Take 1 0 ∷ []
without-node = refl

-- ---- rounds

-- half of the rounds, the second of each two
rounds-two : slow_rounds two_nodes (Link 0 1) 50 0 2
    ≡ Tick 0 ∷ Tick 1 ∷ Send 1 0 ∷ Take 1 0 ∷ Send 1 0 ∷ Take 1 0 ∷ (round two_nodes ++ [])
rounds-two = refl

rounds-none : slow_rounds two_nodes (Link 0 1) 50 0 0 ≡ []
rounds-none = refl

round-with : slow_round two_nodes (Node 1) 50 1 ≡ round two_nodes
round-with = refl

round_not-all : slow_round two_nodes (Node 1) 50 0 ≢ round two_nodes
round_not-all = grind arith

-- a round without the part of the slow one is no sweep: the link keeps its noise, and the node has no tick
link_not-renewed : is_renewed noisy (slow_round two_nodes (Link 0 1) 50 0) 0 1 ≡ false
link_not-renewed = refl

link-renewed : is_renewed noisy (slow_round two_nodes (Link 0 1) 50 1) 0 1 ≡ true
link-renewed = refl

node_not-ticked : has_full_tick (default_world two_nodes) (slow_round two_nodes (Node 1) 50 0) 1 ≡ false
node_not-ticked = refl

node-ticked : has_full_tick (default_world two_nodes) (slow_round two_nodes (Node 1) 50 1) 1 ≡ true
node-ticked = refl

-- ---- what is drawn

-- an even word is the edge's own direction; 1614963889 is odd
draws-link : slow_link two_nodes still ≡ Link 0 1
unfolding draw
draws-link = refl

draws-back : slow_link two_nodes from_one ≡ Link 1 0
unfolding draw
draws-back = refl

-- the words are 0 and 1
draws-first : slow_node two_nodes still ≡ Node 0
unfolding draw
draws-first = refl

draws-second : slow_node two_nodes from_one ≡ Node 1
unfolding draw
draws-second = refl

draws_not-first : slow_node two_nodes from_one ≢ Node 0
unfolding draw
draws_not-first = grind arith
