-- What one mark contributes to each account and to each history.
use Rattle.std.proofs.Common.{◌≡◌, ◌≢◌, ℕ, List, ◌∷◌, arith}
use Rattle.std.proofs.lemmas.Grind.{common_steps}
use Rattle.topology.specs.declared.frame.Frame.{Frame}
use Rattle.node_core.specs.Deeds.{Deed, Sends, Takes}
use Rattle.processes.specs.Links.{Accepts, Gives, Loses}
use Rattle.processes.specs.Marks.{Mark, Does, Drops, account_of, history_of}

pub done-here : (t v : ℕ) (d : Deed) (ms : List Mark) → account_of v (Does t v d ∷ ms) ≡ record { instant = t; deed = d } ∷ account_of v ms
done-here t v d ms = grind (arith, common_steps)

pub done-there : (t v : ℕ) (d : Deed) (ms : List Mark) (a : ℕ) → a ≢ v → account_of a (Does t v d ∷ ms) ≡ account_of a ms
done-there t v d ms a apart = grind (arith, common_steps)

pub send-here : (t v u : ℕ) (f : Frame) (ms : List Mark) → history_of v u (Does t v (Sends u f) ∷ ms) ≡ Accepts t f ∷ history_of v u ms
send-here t v u f ms = grind (arith, common_steps)

pub send-there : (t v u : ℕ) (f : Frame) (ms : List Mark) (a b : ℕ) → ((a ≡ v) × (b ≡ u) → ⊥) → history_of a b (Does t v (Sends u f) ∷ ms) ≡ history_of a b ms
send-there t v u f ms a b apart = grind (arith, common_steps)

pub take-here : (t v u : ℕ) (f : Frame) (ms : List Mark) → history_of u v (Does t v (Takes u f) ∷ ms) ≡ Gives t f ∷ history_of u v ms
take-here t v u f ms = grind (arith, common_steps)

pub take-there : (t v u : ℕ) (f : Frame) (ms : List Mark) (a b : ℕ) → ((a ≡ u) × (b ≡ v) → ⊥) → history_of a b (Does t v (Takes u f) ∷ ms) ≡ history_of a b ms
take-there t v u f ms a b apart = grind (arith, common_steps)

pub drop-here : (t u v i : ℕ) (ms : List Mark) → history_of u v (Drops t u v i ∷ ms) ≡ Loses t i ∷ history_of u v ms
drop-here t u v i ms = grind (arith, common_steps)

pub drop-there : (t u v i : ℕ) (ms : List Mark) (a b : ℕ) → ((a ≡ u) × (b ≡ v) → ⊥) → history_of a b (Drops t u v i ∷ ms) ≡ history_of a b ms
drop-there t u v i ms a b apart = grind (arith, common_steps)
