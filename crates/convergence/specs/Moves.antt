-- The head of the token ring, and how often it moves.
use Rattle.std.specs.Prelude.{ℕ, ◌+◌, ◌==◌, if◌then◌else◌, List, [], ◌∷◌}
use Rattle.k_state.specs.Ring.{head_of}
use Rattle.run_model.specs.World.{World}
use Rattle.run_model.specs.Step.{step}
use Rattle.convergence.specs.Ring.{token_ring}
use Rattle.run_model.specs.declared.event.Event.{Event}

-- the head's value: that of the special machine
abbrev pub head_value : World → ℕ
head_value w = head_of (token_ring w)

-- 1 if an event moves the head, else 0
abbrev pub head_move : World → Event → ℕ
head_move w e = if head_value (step w e) == head_value w then 0 else 1

-- how often a list of events moves the head
abbrev pub head_moves : World → List Event → ℕ
head_moves w [] = 0
head_moves w (e ∷ es) = head_move w e + head_moves (step w e) es
