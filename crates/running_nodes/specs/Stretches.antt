-- What a node that runs did over many turns, and between them.
use Rattle.std.specs.Prelude.{◌≡◌, ◌⊎◌, ℕ, List, [], ◌∷◌, ◌++◌, Option}
use Rattle.node_core.specs.declared.ticked.Ticked.{Ticked}
use Rattle.socket_links.specs.Counts.{Counts}
use Rattle.node_core.specs.Deeds.{Deed}
use Rattle.node_loop.specs.Moments.{Moment}
use Rattle.node_loop.specs.Turns.{Attends, Turns}

-- the account of a turn, or of what was done between two, and how the node was after it
pub record Went (P : Type 0) : Type 0 where
  pub account : List Deed
  pub after : Moment P

module _ {P : Type 0} (gave took : P → Option (List ℕ)) (counts : P → Counts) where
  -- It was a turn with that account, or what is done between two turns.
  abbrev pub IsTurn : List Deed → Moment P → Moment P → Type 0
  IsTurn account old new =
      ((says : Ticked) × (now : ℕ) × (t : Turns gave took counts says now old new)
      × (account ≡ t.account))
      ⊎ ((now : ℕ) × (a : Attends gave took counts now old new) × (account ≡ a.account))

  -- The node went from the one moment to the other by these turns, each from where the one before
  -- it led. Between two turns it waits, which changes nothing.
  abbrev pub Goes : Moment P → List (Went P) → Moment P → Type 0
  Goes old [] last = last ≡ old
  Goes old (t ∷ ts) last = IsTurn t.account old t.after × Goes t.after ts last

-- all that it did, in order
abbrev pub all_deeds : {P : Type 0} → List (Went P) → List Deed
all_deeds [] = []
all_deeds (t ∷ ts) = t.account ++ all_deeds ts
