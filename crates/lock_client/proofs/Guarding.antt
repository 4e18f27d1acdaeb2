-- What a guard does, over everything that happens to it.
use Rattle.std.proofs.Common.{◌≡◌, ◌≢◌, ◌⊎◌, ℕ, ◌+◌, ◌≤◌, Bool, true, false, if◌then◌else◌, List, [], ◌∷◌, ◌++◌, filter, length, arith, refl, inl, inr}
use Rattle.std.specs.Prelude.{⊤}
use Rattle.std.proofs.lemmas.Grind.{common_steps}
use Rattle.std.proofs.lemmas.Bool.Decides.{nat_tests}
use Rattle.lock_client.specs.declared.guard.GuardStage.{GuardStage}
use Rattle.lock_client.specs.declared.guard.GuardStage.TheVariants.{Idle, Watching, Searching, Asked, Killed, Waiting, Over}
use Rattle.lock_client.specs.declared.guard.GuardSight.{GuardSight}
use Rattle.lock_client.specs.declared.guard.GuardEvent.{GuardEvent}
use Rattle.lock_client.specs.declared.guard.GuardEvent.TheVariants.{Said, Closed, Looked}
use Rattle.lock_client.specs.declared.guard.GuardDeed.{GuardDeed}
use Rattle.lock_client.specs.declared.guard.GuardDeed.TheVariants.{Ask}
use Rattle.lock_client.specs.declared.words.GuardWord.TheVariants as word
use Rattle.lock_client.specs.Guards.{guard_after, guard_after_all, guard_deed, guard_deeds}
use Rattle.lock_client.specs.GuardLaws.{quiet_looks, IsUnannounced, is_asking, AsksFirst}
use Rattle.lock_client.proofs.AtMost.{at_most}

-- how many looks in a row found nobody, as the guard has it
abbrev looks_of : GuardStage → ℕ
looks_of (Searching quiet) = quiet
looks_of (Asked quiet) = quiet
looks_of (Killed quiet) = quiet
looks_of (Waiting quiet) = quiet
looks_of _ = 0

counts-one : (keeps : Bool) (stage : GuardStage) (quiet : ℕ) (e : GuardEvent) → looks_of stage ≤ quiet
    → looks_of (guard_after keeps e stage) ≤ quiet_looks quiet (e ∷ [])
counts-one keeps stage quiet e few = grind (arith, common_steps, nat_tests)

quiet-rest : (quiet : ℕ) (e : GuardEvent) (es : List GuardEvent) → quiet_looks (quiet_looks quiet (e ∷ [])) es ≡ quiet_looks quiet (e ∷ es)
quiet-rest quiet e es = grind (arith, common_steps)

counts : (keeps : Bool) (stage : GuardStage) (quiet : ℕ) (events : List GuardEvent) → looks_of stage ≤ quiet
    → looks_of (guard_after_all keeps stage events) ≤ quiet_looks quiet events
counts keeps stage quiet [] few = few
counts keeps stage quiet (e ∷ es) few =
    let rest : _ = counts keeps (guard_after keeps e stage) (quiet_looks quiet (e ∷ [])) es (counts-one keeps stage quiet e few) in
    let same : _ = quiet-rest quiet e es in
    omega arith

quiet-last : (quiet : ℕ) (events : List GuardEvent) (e : GuardEvent)
    → quiet_looks quiet (events ++ e ∷ []) ≡ quiet_looks (quiet_looks quiet events) (e ∷ [])
quiet-last quiet [] e = refl
quiet-last quiet (d ∷ es) e =
    let rest : _ = quiet-last (quiet_looks quiet (d ∷ [])) es e in
    let front : _ = quiet-rest quiet d es in
    let whole : _ = quiet-rest quiet d (es ++ e ∷ []) in
    grind arith

-- an idle guard was idle all the while
no-return : (keeps : Bool) (stage : GuardStage) (e : GuardEvent) → stage ≢ Idle → guard_after keeps e stage ≢ Idle
no-return keeps stage e other = grind (arith, common_steps, nat_tests)

left-idle : (keeps : Bool) (stage : GuardStage) (events : List GuardEvent) → stage ≢ Idle → guard_after_all keeps stage events ≢ Idle
left-idle keeps stage [] other = other
left-idle keeps stage (e ∷ es) other = left-idle keeps (guard_after keeps e stage) es (no-return keeps stage e other)

starts-off : (keeps : Bool) (e : GuardEvent) → e ≡ Said word.Start → guard_after keeps e Idle ≢ Idle
starts-off keeps e same = grind (arith, common_steps)

idle-or-not : (keeps : Bool) (e : GuardEvent) → (guard_after keeps e Idle ≡ Idle) ⊎ (guard_after keeps e Idle ≢ Idle)
idle-or-not keeps e = grind (arith, common_steps)

unannounced : (keeps : Bool) (events : List GuardEvent) → guard_after_all keeps Idle events ≡ Idle → IsUnannounced events
unannounced keeps [] idle = record {}
unannounced keeps (e ∷ es) idle = (
  λ same. left-idle keeps (guard_after keeps e Idle) es (starts-off keeps e same) idle,
  elim (idle-or-not keeps e) [
    | inl same ↦ unannounced keeps es (rw same at idle)
    | inr other ↦ elim (left-idle keeps (guard_after keeps e Idle) es other idle) [ ]
  ],
)

-- what ends a guard, by its stage
ends-how : (keeps : Bool) (stage : GuardStage) (quiet : ℕ) (next : GuardEvent) → stage ≢ Over → looks_of stage ≤ quiet
    → guard_after keeps next stage ≡ Over
    → (next ≡ Said word.Done) ⊎ ((next ≡ Closed) × (stage ≡ Idle)) ⊎ (4 ≤ quiet_looks quiet (next ∷ []))
ends-how keeps stage quiet next live few over = grind (arith, common_steps, nat_tests)

pub gives_back_rightly : (keeps : Bool) (events : List GuardEvent) (next : GuardEvent)
    → (guard_after_all keeps Idle events ≡ Over → ⊥)
    → guard_after keeps next (guard_after_all keeps Idle events) ≡ Over
    → (next ≡ Said word.Done) ⊎ ((next ≡ Closed) × IsUnannounced events) ⊎ (4 ≤ quiet_looks 0 (events ++ next ∷ []))
gives_back_rightly keeps events next live over =
    let few : _ = counts keeps Idle 0 events (omega arith) in
    elim (ends-how keeps (guard_after_all keeps Idle events) (quiet_looks 0 events) next live few over) [
      | inl done ↦ inl done
      | inr other ↦ elim other [
        | inl closed ↦ inr (inl (closed.0, unannounced keeps events closed.1))
        | inr quiet ↦ inr (inr (rw (quiet-last 0 events next) quiet))
      ]
    ]

-- how often the command may still be asked to end
abbrev asks_left : GuardStage → ℕ
asks_left Idle = 1
asks_left Watching = 1
asks_left (Searching quiet) = 1
asks_left _ = 0

ask-counted : (keeps : Bool) (e : GuardEvent) (stage : GuardStage)
    → (if is_asking (guard_deed stage (guard_after keeps e stage)) then 1 else 0) + asks_left (guard_after keeps e stage) ≤ asks_left stage
ask-counted keeps e stage = grind (arith, common_steps, nat_tests)

pub asks : (keeps : Bool) (stage : GuardStage) (events : List GuardEvent)
    → length (filter is_asking (guard_deeds keeps stage events)) ≤ asks_left stage
asks keeps = at_most (guard_after keeps) (λ e. guard_deed) is_asking asks_left (ask-counted keeps)

-- before it has asked, and after it has chosen to wait, it kills nobody
abbrev IsBefore : GuardStage → Type 0
IsBefore Idle = ⊤
IsBefore Watching = ⊤
IsBefore (Searching quiet) = ⊤
IsBefore (Waiting quiet) = ⊤
IsBefore Over = ⊤
IsBefore _ = ⊥

first-one : (keeps : Bool) (stage : GuardStage) (e : GuardEvent) (rest : List GuardDeed) → IsBefore stage
    → (IsBefore (guard_after keeps e stage) → AsksFirst rest)
    → AsksFirst (guard_deed stage (guard_after keeps e stage) ∷ rest)
first-one keeps stage e rest before next = grind (arith, common_steps, nat_tests)

pub asks_first : (keeps : Bool) (stage : GuardStage) (events : List GuardEvent) → IsBefore stage → AsksFirst (guard_deeds keeps stage events)
asks_first keeps stage [] before = record {}
asks_first keeps stage (e ∷ es) before =
    first-one keeps stage e (guard_deeds keeps (guard_after keeps e stage) es) before (λ next. asks_first keeps (guard_after keeps e stage) es next)

-- if the command is left alone, nobody is asked
abbrev IsCalm : Bool → GuardStage → Type 0
IsCalm keeps (Waiting quiet) = ⊤
IsCalm keeps Over = ⊤
IsCalm keeps (Asked quiet) = ⊥
IsCalm keeps (Killed quiet) = ⊥
IsCalm keeps _ = keeps ≡ true

calm-one : (keeps : Bool) (stage : GuardStage) (e : GuardEvent) → IsCalm keeps stage
    → IsCalm keeps (guard_after keeps e stage) × (is_asking (guard_deed stage (guard_after keeps e stage)) ≡ false)
calm-one keeps stage e calm = grind (arith, common_steps, nat_tests)

pub leaves_alone : (keeps : Bool) (stage : GuardStage) (events : List GuardEvent) → IsCalm keeps stage
    → filter is_asking (guard_deeds keeps stage events) ≡ []
leaves_alone keeps stage [] calm = refl
leaves_alone keeps stage (e ∷ es) calm =
    let one : _ = calm-one keeps stage e calm in
    let rest : _ = leaves_alone keeps (guard_after keeps e stage) es one.0 in
    let no : _ = one.1 in
    grind (arith, common_steps)

signalled-one : (quiet : ℕ) (sight : GuardSight) → sight.signalled ≡ true
    → IsCalm false (guard_after false (Looked sight) (Searching quiet))
    × (is_asking (guard_deed (Searching quiet) (guard_after false (Looked sight) (Searching quiet))) ≡ false)
signalled-one quiet sight had = grind (arith, common_steps, nat_tests)

pub signalled : (quiet : ℕ) (sight : GuardSight) (events : List GuardEvent) → sight.signalled ≡ true
    → filter is_asking (guard_deeds false (Searching quiet) (Looked sight ∷ events)) ≡ []
signalled quiet sight events had =
    let one : _ = signalled-one quiet sight had in
    let rest : _ = leaves_alone false (guard_after false (Looked sight) (Searching quiet)) events one.0 in
    let no : _ = one.1 in
    grind (arith, common_steps)

pub asks_whom_it_finds : (quiet : ℕ) (sight : GuardSight) → sight.somebody ≡ true → sight.signalled ≡ false
    → guard_deed (Searching quiet) (guard_after false (Looked sight) (Searching quiet)) ≡ Ask
asks_whom_it_finds quiet sight some none = grind (arith, common_steps, nat_tests)
