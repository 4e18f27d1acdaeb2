-- A turn of a node, and what is done between two turns: the account of each.
use Rattle.std.specs.Prelude.{◌≡◌, ℕ, List, ◌++◌, ◌∷◌, Option}
use Rattle.node_core.specs.View.{site_in, state_of}
use Rattle.node_core.specs.declared.ticked.Ticked.{Ticked}
use Rattle.pace.specs.declared.pace.Plan.{Plan}
use Rattle.node_connections.specs.socket_links.Counts.{Counts}
use Rattle.node_service.specs.Deeds.{Acts, Became, Deed, IsLeave, Leads, Ticks}
use Rattle.node_loop.specs.Hearing.{Listens}
use Rattle.node_loop.specs.Moments.{Moment}
use Rattle.node_loop.specs.Remembering.{Remembers}
use Rattle.node_loop.specs.Speaking.{IsPlanOf, Speaks}

-- A turn: some or all of what came was taken; then the node ticked once; then it spoke to its
-- neighbours, by the plan that the pace makes once it has ticked; and at the end some tickets left.
-- The account is the list of all that it did, in order.
pub record Turns {P : Type 0} (gave took : P → Option (List ℕ)) (counts : P → Counts)
    (says : Ticked) (now : ℕ) (old new : Moment P) : Type 0 where
  pub heard : Moment P
  pub acted : Moment P
  pub plan : Plan
  pub listens : Listens gave took counts old heard
  pub acts : Acts says heard.node acted.node
  pub ports : acted.ports ≡ heard.ports
  pub remembers : Remembers heard.pace acted.pace
  pub plans : IsPlanOf now acted plan
  pub speaks : Speaks gave took counts plan.offers now acted new
  pub leaves : Became IsLeave acted.node new.node
  pub account : List Deed
  pub account_is : account
      ≡ listens.hears.takes.deeds ++ (listens.serves.deeds
      ++ (Ticks ∷ (acts.leaves.deeds ++ (speaks.sends ++ leaves.deeds))))
  pub leads : Leads (site_in old.node) account (state_of old.node) (state_of new.node)

-- The same without the tick.
pub record Attends {P : Type 0} (gave took : P → Option (List ℕ)) (counts : P → Counts) (now : ℕ)
    (old new : Moment P) : Type 0 where
  pub heard : Moment P
  pub plan : Plan
  pub listens : Listens gave took counts old heard
  pub plans : IsPlanOf now heard plan
  pub speaks : Speaks gave took counts plan.offers now heard new
  pub leaves : Became IsLeave heard.node new.node
  pub account : List Deed
  pub account_is : account
      ≡ listens.hears.takes.deeds ++ (listens.serves.deeds ++ (speaks.sends ++ leaves.deeds))
  pub leads : Leads (site_in old.node) account (state_of old.node) (state_of new.node)
