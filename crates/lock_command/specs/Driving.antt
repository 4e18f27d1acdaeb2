-- The outcome of a client, from all that happened to it.
use Rattle.std.specs.Prelude.{◌≡◌, Bool, List, Option, Some}
use Rattle.lock_client.specs.declared.client.ClientEvent.{ClientEvent}
use Rattle.lock_client.specs.declared.client.ClientStage.TheVariants.{Asking, Over}
use Rattle.lock_client.specs.declared.outcome.Outcome.{Outcome}
use Rattle.lock_client.specs.Steps.{stage_after_all}

-- a client to which exactly these things happened is over with this outcome
abbrev pub IsOutcomeOf : Bool → Option (List ClientEvent) → Outcome → Type 0
IsOutcomeOf keeps reported outcome =
    (events : List ClientEvent) × (reported ≡ Some events)
    × (stage_after_all keeps Asking events ≡ Over outcome)
