-- A guard that hears all that happened.
use Rattle.std.proofs.Common.{◌≡◌, Bool, Option, List, refl, arith}
use Rattle.std.proofs.lemmas.Grind.{common_steps}
use Rattle.lock_client.specs.declared.guard.GuardEvent.{GuardEvent}
use Rattle.lock_client.specs.declared.guard.GuardStage.{GuardStage}
use Rattle.lock_client.specs.declared.guard.GuardStage.TheVariants.{Idle, Over}
use Rattle.lock_client.specs.declared.guard.GuardDeed.{GuardDeed}
use Rattle.lock_client.specs.declared.guard.GuardDeed.TheVariants.{End}
use Rattle.lock_client.specs.Guards.{guard_after, guard_after_all, guard_deed}
use Rattle.lock_command.proofs.Heard.{HasHeard, HearsOn, hears_on}

-- all that was heard, from the first event on, led a guard to this stage
abbrev pub IsOnGuard : Bool → Option (List GuardEvent) → Option (List GuardEvent) → GuardStage → Type 0
IsOnGuard = HasHeard guard_after_all Idle

pub watches : HearsOn guard_after guard_after_all Idle
watches = hears_on guard_after guard_after_all (λ keeps stage. refl) (λ keeps stage e es. refl) Idle

-- a guard that must end is over
pub ends : (before after : GuardStage) (deed : GuardDeed) → deed ≡ guard_deed before after → deed ≡ End → after ≡ Over
ends before after deed is same = grind (arith, common_steps)
