-- A sink that takes a list part by part.
use Rattle.std.specs.Prelude.{◌≡◌, List, ◌++◌}
use Rattle.configuration.specs.run_model.declared.event.Event.{Event}

-- what is taken in two parts is taken together
abbrev pub TakesBoth : {S : Type 0} → (S → List Event → S → Type 0) → Type 0
TakesBoth {S} takes = (a b c : S) (xs ys : List Event) → takes a xs b → takes b ys c → takes a (xs ++ ys) c

-- between these two states of the sink it has taken all of the list but what is left
pub record IsUnderWay {S : Type 0} (takes : S → List Event → S → Type 0) (old : S) (whole left : List Event) (now : S) : Type 0 where
  pub done : List Event
  pub parts : whole ≡ done ++ left
  pub taken : takes old done now

-- a sink that takes the first part of what is left is under way with the rest left
abbrev pub TakesOn : {S : Type 0} → (S → List Event → S → Type 0) → Type 0
TakesOn {S} takes =
    (a b c : S) (whole left front rest : List Event) → IsUnderWay takes a whole left b
    → left ≡ front ++ rest → takes b front c → IsUnderWay takes a whole rest c
