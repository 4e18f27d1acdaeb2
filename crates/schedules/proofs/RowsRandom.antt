-- Rows: what the random schedule draws from generators that one can follow by hand, and which steps it admits.
-- The words were worked out apart from this code, by the rule of O'Neill, "PCG", 2014. From the state 0 with the
-- increment 1 they are 0, 0, 3837872008, 932996374, 1548399547.
use Rattle.std.proofs.Common.{◌≡◌, ◌≢◌, ℕ, ◌<◌, zero, suc, true, false, List, [], ◌∷◌, map, None, refl, arith}
use Rattle.std.proofs.lemmas.Bool.{false≢true}
use Rattle.rand_pcg.specs.Lcg.{Lcg}
use Rattle.configuration.specs.run_model.World.{World}
use Rattle.configuration.specs.run_model.Start.{default_world}
use Rattle.configuration.specs.run_model.Sweep.{is_full_tick}
use Rattle.configuration.specs.run_model.declared.event.Event.TheVariants.{Ask, Leave, Lose, Send, Take, Tick}
use Rattle.topology.specs.Network.{Network}
use Rattle.damage_tool.specs.Draws.{draw}
use Rattle.schedules.specs.Laws.{AreTicksFull, AreTicksFullFor, IsIdle}
use Rattle.schedules.specs.Random.{draw_link, draw_arrival, draw_client, draw_step, node_at, admitted, random_steps}
use Rattle.schedules.specs.Rounds.{exchanges, exchanges_from}
use Rattle.schedules.specs.declared.random.Chances.{Chances}
use Rattle.schedules.proofs.RowsRounds.{asked}

abbrev two_nodes : Network
two_nodes = record { nodes = 2; root = 0; capacity = 1; lease = 0; edges = (0, 1) ∷ [] }

each-node : (P : ℕ → Type 0) → P 0 → P 1 → (v : ℕ) → v < 2 → P v
each-node P a b zero l = a
each-node P a b (suc zero) l = b
each-node P a b (suc (suc v)) l = absurd (omega arith)

abbrev pub at_state : ℕ → Lcg
at_state state = record { state = state; increment = 1 }

abbrev pub still : Lcg
still = at_state 0

-- from here the words are 1, 1614963889, 2332581483, 26611882
abbrev pub from_one : Lcg
from_one = at_state 134217728

-- from here 2, 1259734054, 1146624700, 1876153514
abbrev from_two : Lcg
from_two = at_state 268435456

-- and from here 3, 4023091977, 3866068852, 3395485198
abbrev from_three : Lcg
from_three = at_state 402653184

abbrev no_clients : Chances
no_clients = record { loss = 0; clients = false }

abbrev with_clients : Chances
with_clients = record { loss = 0; clients = true }

-- ---- links and arrivals

-- two words: which edge, and which way; an even word is the edge's own
draws-link : draw_link two_nodes still ≡ ((0, 1), at_state 6364136223846793006)
unfolding draw
draws-link = refl

draws-back : draw_link two_nodes from_one ≡ ((1, 0), at_state 7520573345076969262)
unfolding draw
draws-back = refl

-- the third word is 8 modulo 100: of a hundred arrivals 9 are losses, and this is one; of 8 it is none
draws-loss : draw_arrival two_nodes 9 still ≡ (Lose 0 1 0, at_state 13885033948157127959)
unfolding draw
draws-loss = refl

draws_not-loss : draw_arrival two_nodes 8 still ≡ (Take 0 1, at_state 13885033948157127959)
unfolding draw
draws_not-loss = refl

-- ---- clients

draws-ask : draw_client two_nodes still ≡ (Ask 0 0, at_state 13885033948157127959)
unfolding draw
draws-ask = refl

-- 1614963889 is 1 modulo 16, and an odd word leaves
draws-leave : draw_client two_nodes from_one ≡ (Leave 1 1, at_state 8665688842749422871)
unfolding draw
draws-leave = refl

draws_not-ask : draw_client two_nodes from_one ≢ (Ask 1 1, at_state 8665688842749422871)
unfolding draw
draws_not-ask = grind arith

-- ---- steps

-- 3 is a tick if there are three kinds, and a client's if there are four
draws-steps : map (draw_step two_nodes no_clients) (still ∷ from_one ∷ from_two ∷ from_three ∷ [])
    ≡ (Tick 0, at_state 6364136223846793006) ∷ (Send 1 0, at_state 8665688842749422871)
    ∷ (Take 0 1, at_state 350473898250884620) ∷ (Tick 1, at_state 9833447587537321774) ∷ []
unfolding draw
draws-steps = refl

draws-client : draw_step two_nodes with_clients from_three ≡ (Ask 1 4, at_state 2409628213195724300)
unfolding draw
draws-client = refl

-- ---- what is admitted

abbrev start : World
start = default_world two_nodes

-- the node of a step on a link is the one that it leads to
node-to : node_at (Lose 0 1 0) ≡ 1
node-to = refl

node_not-from : node_at (Send 0 1) ≢ 0
node_not-from = grind arith

admits : admitted start (Ask 1 7) ≡ Ask 1 7
admits = refl

-- nothing is under way to be lost, and nobody is there to leave
admits_not-loss : admitted start (Lose 0 1 0) ≡ Tick 1
admits_not-loss = refl

admits_not-stranger : admitted start (Leave 0 7) ≡ Tick 0
admits_not-stranger = refl

steps-none : (g : Lcg) → random_steps start no_clients 0 g ≡ []
steps-none g = refl

-- 3837872008 is 1 modulo 3: a send; 1548399547 is odd: from 1 to 0
steps-two : random_steps start no_clients 2 still ≡ Tick 0 ∷ Send 1 0 ∷ []
unfolding draw
steps-two = refl

steps_not-one : random_steps start no_clients 2 still ≢ Tick 0 ∷ []
unfolding draw
steps_not-one = grind arith

-- ---- rounds

exchanges-two : exchanges 0 1 2 ≡ Send 0 1 ∷ Take 0 1 ∷ Send 0 1 ∷ Take 0 1 ∷ []
exchanges-two = refl

-- a link for one item carries two
exchanges-from : exchanges_from two_nodes 1 ≡ exchanges 1 0 2
exchanges-from = refl

exchanges_not-one : exchanges_from two_nodes 1 ≢ exchanges 1 0 1
exchanges_not-one = grind arith

-- nobody borrows at the start, so each tick is full, of the next round too
full : AreTicksFull start
full = each-node (λ v. is_full_tick start (Tick v) v ≡ true) refl refl

full-for : AreTicksFullFor start 1
full-for = (full, tt)

-- node 0 is privileged, and lends to whoever asked
full_not-lent : ¬ AreTicksFull asked
full_not-lent are = let tick : false ≡ true = are 0 (omega arith) in false≢true tick

full_not-for : ¬ AreTicksFullFor asked 1
full_not-for are = full_not-lent are.0

idle : IsIdle start
idle = each-node (λ v. ((start.node v).desk.waiting ≡ []) × ((start.node v).desk.lent ≡ None)) (refl, refl) (refl, refl)

idle_not-asked : ¬ IsIdle asked
idle_not-asked is = let waits : ◌≡◌ {A = List ℕ} (5 ∷ []) [] = (is 0 (omega arith)).0 in grind (arith, waits)
