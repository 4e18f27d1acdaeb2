-- Two nodes and links of capacity 1: who is privileged after the first rounds.
use Rattle.std.proofs.Common.{◌≡◌, ℕ, zero, suc, List, [], ◌∷◌, ◌++◌, true, false, refl}
use Rattle.run_model.specs.World.{World}
use Rattle.run_model.specs.Start.{default_world}
use Rattle.run_model.specs.Run.{run}
use Rattle.run_model.specs.Privilege.{is_privileged}
use Rattle.run_model.specs.NodeCounts.{privileged_count}
use Rattle.run_model.specs.Visited.{is_visited}
use Rattle.run_model.specs.declared.event.Event.{Event}
use Rattle.run_model.specs.declared.event.Event.TheVariants.{Send, Take, Tick, Damage}
use Rattle.run_model.specs.declared.event.Harm.TheVariants as harm
use Rattle.run_model.proofs.RowsTwo.{two_nodes}

-- both tick, and then two frames go from 0 to 1, and two from 1 to 0
abbrev pub round : List Event
round = Tick 0 ∷ Tick 1 ∷ Send 0 1 ∷ Take 0 1 ∷ Send 0 1 ∷ Take 0 1 ∷ Send 1 0 ∷ Take 1 0 ∷ Send 1 0 ∷ Take 1 0 ∷ []

abbrev pub rounds : ℕ → List Event
rounds zero = []
rounds (suc n) = round ++ rounds n

-- the world after n rounds from the start
abbrev pub after : ℕ → World
after n = run (default_world two_nodes) (rounds n)

-- if all values of the token ring are equal, the special machine may move: only node 0 is
-- privileged
node-0_after_four : is_privileged (after 4) 0 ≡ true
node-0_after_four = refl

alone-after_four : privileged_count (after 4) ≡ 1
alone-after_four = refl

-- while the new value is under way, no node is privileged
nobody-after_five : privileged_count (after 5) ≡ 0
nobody-after_five = refl

-- once it has arrived, node 1 is privileged
node-1_after_six : is_privileged (after 6) 1 ≡ true
node-1_after_six = refl

alone-after_six : privileged_count (after 6) ≡ 1
alone-after_six = refl

node-0_after_seven : is_privileged (after 7) 0 ≡ true
node-0_after_seven = refl

alone-after_seven : privileged_count (after 7) ≡ 1
alone-after_seven = refl

-- from there the privilege has visited only node 0 after one round, and both nodes after two
one-visited : is_visited (after 4) round 1 ≡ false
one-visited = refl

both-visited : is_visited (after 4) (rounds 2) 1 ≡ true
both-visited = refl

-- Damage starts the visits over, with the nodes that are privileged right after it: an emptied
-- link removes the visit of node 1, and node 0's machine is where it was.
visited-before_damage : is_visited (after 4) (rounds 2 ++ round) 1 ≡ true
visited-before_damage = refl

not-visited_since_damage : is_visited (after 4) (rounds 3 ++ Damage (harm.Empty 0 1) ∷ []) 1 ≡ false
not-visited_since_damage = refl

still-visited_at_damage : is_visited (after 4) (rounds 3 ++ Damage (harm.Empty 0 1) ∷ []) 0 ≡ true
still-visited_at_damage = refl

-- a refused harm is no damage
refused-harm_takes_nothing : is_visited (after 4) (rounds 2 ++ round ++ Damage (harm.Empty 0 2) ∷ []) 1 ≡ true
refused-harm_takes_nothing = refl
