-- Rounds: what a node does between two ticks.
use Rattle.std.specs.Prelude.{◌≡◌, ℕ, zero, suc, List, [], ◌∷◌, ◌++◌}
use Rattle.weaving.specs.Account.{Note, Ticked}
use Rattle.node_runner.specs.Runner.{IsOneSend, IsOneTake}

-- for each of these neighbours, in their order, at most one send to it, and nothing else
abbrev pub AreSendsTo : List ℕ → List Note → Type 0
AreSendsTo [] notes = notes ≡ []
AreSendsTo (u ∷ us) notes = (first : List Note) × (later : List Note) × (notes ≡ first ++ later) × IsOneSend u first × AreSendsTo us later

-- for each of these neighbours, in their order, at most two takes from it, and nothing else
abbrev pub AreTakesFrom : List ℕ → List Note → Type 0
AreTakesFrom [] notes = notes ≡ []
AreTakesFrom (u ∷ us) notes =
    (first : List Note) × (second : List Note) × (later : List Note) × (notes ≡ first ++ (second ++ later))
    × IsOneTake u first × IsOneTake u second × AreTakesFrom us later

-- a round of a node with these neighbours: a tick, then sends, then takes
pub record IsRound (neighbours : List ℕ) (notes : List Note) : Type 0 where
  pub stamp : ℕ
  pub sends : List Note
  pub takes : List Note
  pub are : notes ≡ Ticked stamp ∷ (sends ++ takes)
  pub are_sends : AreSendsTo neighbours sends
  pub are_takes : AreTakesFrom neighbours takes

-- n rounds, one after the other, so n ticks
abbrev pub AreRounds : List ℕ → ℕ → List Note → Type 0
AreRounds neighbours zero notes = notes ≡ []
AreRounds neighbours (suc n) notes = (first : List Note) × (later : List Note) × (notes ≡ first ++ later) × IsRound neighbours first × AreRounds neighbours n later
