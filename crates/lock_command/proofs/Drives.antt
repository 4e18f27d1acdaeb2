-- A client that hears all that happened.
use Rattle.std.proofs.Common.{◌≡◌, ◌≢◌, Bool, true, false, Option, List, refl, arith}
use Rattle.std.proofs.lemmas.Grind.{common_steps}
use Rattle.lock_client.specs.declared.client.ClientEvent.{ClientEvent}
use Rattle.lock_client.specs.declared.client.ClientEvent.TheVariants.{Ended}
use Rattle.lock_client.specs.declared.outcome.CommandEnd.{CommandEnd}
use Rattle.lock_client.specs.declared.client.ClientStage.{ClientStage}
use Rattle.lock_client.specs.declared.client.ClientStage.TheVariants.{Asking, Holding, Losing, Returning, Over}
use Rattle.lock_client.specs.declared.client.ClientDeed.{ClientDeed}
use Rattle.lock_client.specs.declared.client.ClientDeed.TheVariants.{Finish, Start}
use Rattle.lock_client.specs.declared.outcome.Outcome.{Outcome}
use Rattle.lock_client.specs.Steps.{stage_after, stage_after_all, deed_between}
use Rattle.lock_command.proofs.Heard.{HasHeard, HearsOn, hears_on}

-- all that was heard, from the first event on, led a client to this stage
abbrev pub IsUnderWay : Bool → Option (List ClientEvent) → Option (List ClientEvent) → ClientStage → Type 0
IsUnderWay = HasHeard stage_after_all Asking

pub steps : HearsOn stage_after stage_after_all Asking
steps = hears_on stage_after stage_after_all (λ keeps stage. refl) (λ keeps stage e es. refl) Asking

-- a client that must finish is over
pub closes : (keeps : Bool) (e : ClientEvent) (before after : ClientStage) (deed : ClientDeed) (outcome : Outcome) → deed ≡ deed_between keeps e before after
    → deed ≡ Finish outcome → after ≡ Over outcome
closes keeps e before after deed outcome is same = grind (arith, common_steps)

-- a command runs only while its client holds the lock, or has lost it
abbrev pub RunsAt : Bool → ClientStage → Type 0
RunsAt runs Asking = runs ≡ false
RunsAt runs Holding = Unit {0}
RunsAt runs Losing = Unit {0}
RunsAt runs (Returning end) = runs ≡ false
RunsAt runs (Over outcome) = runs ≡ false

-- the same after a step: a command starts only by the deed for it, and none runs whose end was
-- reported
pub runs_on : (keeps : Bool) (e : ClientEvent) (before after : ClientStage) (deed : ClientDeed) (was is will : Bool) → RunsAt was before
    → after ≡ stage_after keeps e before → deed ≡ deed_between keeps e before after → (is ≡ true → was ≡ true)
    → ((end : CommandEnd) → e ≡ Ended end → is ≡ false) → (deed ≢ Start → will ≡ is) → RunsAt will after
runs_on keeps e before after deed was is will at so does none ended starts = grind (arith, common_steps)

-- so none runs once all is over
pub runs_over : (runs : Bool) (stage : ClientStage) (outcome : Outcome) → stage ≡ Over outcome → RunsAt runs stage → runs ≡ false
runs_over runs stage outcome over at = grind (arith, common_steps)
