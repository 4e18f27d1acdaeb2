-- A command is started and asked to end, and the lock given back, at most once.
use Rattle.std.proofs.Common.{◌≡◌, ◌≤◌, true, false, ◌+◌, ℕ, Bool, if◌then◌else◌, List, [], ◌∷◌, length, filter, refl, arith}
use Rattle.std.proofs.lemmas.Grind.{common_steps}
use Rattle.lock_client.specs.declared.client.ClientStage.{ClientStage}
use Rattle.lock_client.specs.declared.client.ClientStage.TheVariants.{Asking, Holding}
use Rattle.lock_client.specs.declared.client.ClientEvent.{ClientEvent}
use Rattle.lock_client.specs.declared.client.ClientDeed.{ClientDeed}
use Rattle.lock_client.specs.Steps.{stage_after, deed_between, deeds}
use Rattle.lock_client.specs.Laws.{is_start, is_giving_back, is_ending}
use Rattle.lock_client.proofs.AtMost.{at_most}

-- what is done on an event
abbrev deed_on : Bool → ClientEvent → ClientStage → ClientDeed
deed_on keeps e stage = deed_between keeps e stage (stage_after keeps e stage)

-- each deed of a kind takes one of those that may still come
abbrev IsCounted : (ClientDeed → Bool) → (ClientStage → ℕ) → Type 0
IsCounted kind left =
    (keeps : Bool) (e : ClientEvent) (stage : ClientStage) → (if kind (deed_on keeps e stage) then 1 else 0) + left (stage_after keeps e stage) ≤ left stage

few : (kind : ClientDeed → Bool) (left : ClientStage → ℕ) → IsCounted kind left → (keeps : Bool) (stage : ClientStage) (events : List ClientEvent)
    → length (filter kind (deeds keeps stage events)) ≤ left stage
few kind left counted keeps = at_most (stage_after keeps) (deed_between keeps) kind left (counted keeps)

-- how many starts may still come
abbrev starts_left : ClientStage → ℕ
starts_left Asking = 1
starts_left _ = 0

-- how often the lock may still be given back, or the command asked to end
abbrev ends_left : ClientStage → ℕ
ends_left Asking = 1
ends_left Holding = 1
ends_left _ = 0

start-counted : IsCounted is_start starts_left
start-counted keeps e stage = grind (arith, common_steps)

return-counted : IsCounted is_giving_back ends_left
return-counted keeps e stage = grind (arith, common_steps)

ending-counted : IsCounted is_ending ends_left
ending-counted keeps e stage = grind (arith, common_steps)

pub starts : (keeps : Bool) (stage : ClientStage) (events : List ClientEvent) → length (filter is_start (deeds keeps stage events)) ≤ starts_left stage
starts = few is_start starts_left start-counted

pub gives_back : (keeps : Bool) (stage : ClientStage) (events : List ClientEvent) → length (filter is_giving_back (deeds keeps stage events)) ≤ ends_left stage
gives_back = few is_giving_back ends_left return-counted

pub endings : (keeps : Bool) (stage : ClientStage) (events : List ClientEvent) → length (filter is_ending (deeds keeps stage events)) ≤ ends_left stage
endings = few is_ending ends_left ending-counted

-- a command that may run on is not asked to end
not-asked : (e : ClientEvent) (stage : ClientStage) → is_ending (deed_on true e stage) ≡ false
not-asked e stage = grind (arith, common_steps)

pub kept : (stage : ClientStage) (events : List ClientEvent) → filter is_ending (deeds true stage events) ≡ []
kept stage [] = refl
kept stage (e ∷ es) =
    let one : _ = not-asked e stage in
    let rest : _ = kept (stage_after true e stage) es in
    grind (arith, common_steps)
