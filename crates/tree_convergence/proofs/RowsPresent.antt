-- What is said and staged throughout a run on two nodes, with examples that fail.
use Rattle.std.proofs.Common.{◌≡◌, [], ◌∷◌, Bool, refl}
use Rattle.std.proofs.lemmas.Bool.{false≢true}
use Rattle.std.specs.Prelude.{◌==◌}
use Rattle.topology.specs.declared.frame.Payload.{Payload}
use Rattle.run_model.specs.World.{World}
use Rattle.run_model.specs.Start.{default_world}
use Rattle.run_model.specs.declared.event.Event.TheVariants.{Send, Take, Tick}
use Rattle.run_model.proofs.RowsTwo.{two_nodes}
use Rattle.tree_convergence.specs.Present.{AlwaysPresent, AlwaysStaged, number_moves}

abbrev start : World
start = default_world two_nodes

-- the distance in the payload is the greatest
abbrev is_two : Payload → Bool
is_two p = p.distance == 2

-- node 0 says that until its first tick, which makes it the root
said-at_first : AlwaysPresent is_two start (Tick 1 ∷ Send 0 1 ∷ []) 0 1
said-at_first = (refl, (refl, refl))

not-said_throughout : AlwaysPresent is_two start (Tick 0 ∷ []) 0 1 → ⊥
not-said_throughout said = false≢true said.1

-- it has that staged until node 1 has acknowledged it
staged-throughout : AlwaysStaged is_two start (Tick 0 ∷ Send 0 1 ∷ Take 0 1 ∷ []) 0 1
staged-throughout = (refl, (refl, (refl, refl)))

not-staged_any_more : AlwaysStaged is_two start (Tick 0 ∷ Send 1 0 ∷ Take 1 0 ∷ []) 0 1 → ⊥
not-staged_any_more staged = false≢true staged.1.1.1

-- the number moves with an acknowledgement: nodes start with equal numbers, so the first frame has
-- one
one-move : number_moves start (Send 1 0 ∷ Take 1 0 ∷ []) 0 1 ≡ 1
one-move = refl

-- and not if nothing is taken
no-move : number_moves start (Send 1 0 ∷ Tick 0 ∷ []) 0 1 ≡ 0
no-move = refl
