-- The account of a node over a stretch of time: what it did, deed by deed, and when.
use Rattle.std.specs.Prelude.{ℕ, ◌≤◌, List, [], ◌∷◌, map}
use Rattle.std.specs.List.{AllByRecursion}
use Rattle.node_core.specs.Deeds.{Deed}

-- A deed, and the instant at which it was done. Instants are numbers that never fall as time goes
-- on, in any unit; they are the reader's, and no node need know them.
pub record Timed : Type 0 where
  pub instant : ℕ
  pub deed : Deed

-- the deeds alone
abbrev pub deeds : List Timed → List Deed
deeds account = map (λ t. t.deed) account

-- no deed was done before one that stands in front of it
abbrev pub AreInTime : List Timed → Type 0
AreInTime [] = Unit {0}
AreInTime (t ∷ ts) = AllByRecursion (λ later. t.instant ≤ later.instant) ts × AreInTime ts
