-- The order of a measured run's events, by the words of `measure`.
use Rattle.std.specs.Prelude.{◌≡◌, ℕ, Bool, true, false, List, Option, None, Some, is_some, unwrap_or, if◌then◌else◌, codes}
use Rattle.std.specs.Str.{bytes_eq}
use Rattle.clap.specs.Matches.{first_value}
use Rattle.clap.specs.declared.parser.matches.Found.{Found}
use Rattle.command_grammar.specs.Given.{IsGiven, IsFlag, IsUnread}
use Rattle.command_grammar.specs.declared.words.WordFault.TheVariants.{NoNumber, Absent}
use Rattle.subcommands.specs.experiments.declared.measured_run.Scheduler.{Scheduler}
use Rattle.subcommands.specs.experiments.declared.measured_run.Scheduler.TheVariants.{Rounds, Random, SlowLink, SlowNode}
use Rattle.command_words.specs.declared.refusal.Refusal.{Refusal}
use Rattle.command_words.specs.declared.refusal.Refusal.TheVariants.{Word, Schedule}
use Rattle.command_words.specs.declared.refusal.ScheduleFault.TheVariants.{Unknown, SlowAlone}

-- the order that has this name, with this share if something is slow in it
abbrev pub scheduler_named : List ℕ → ℕ → Option Scheduler
scheduler_named name share =
    if bytes_eq name (codes "rounds") then Some Rounds
    else if bytes_eq name (codes "random") then Some Random
    else if bytes_eq name (codes "slow-link") then Some (SlowLink share)
    else if bytes_eq name (codes "slow-node") then Some (SlowNode share)
    else None

abbrev pub is_slow : Scheduler → Bool
is_slow Rounds = false
is_slow Random = false
is_slow (SlowLink share) = true
is_slow (SlowNode share) = true

-- The order of that name, by the share of `--share`, which is 1 to 100, by default 10. Only a slow one
-- takes a share.
abbrev pub IsNamedScheduler : Found → List ℕ → Scheduler → Type 0
IsNamedScheduler found name scheduler =
    (share : Option ℕ) × IsGiven found (codes "share") 1 100 share
    × (scheduler_named name (unwrap_or share 10) ≡ Some scheduler)
    × (is_some share ≡ true → is_slow scheduler ≡ true)

-- why it is invalid: the share is no such number; there is no such order; or there is a share, and
-- nothing is slow
abbrev pub IsNamedRefused : Found → List ℕ → Refusal → Type 0
IsNamedRefused found name (Word (NoNumber number)) = (number.id.now ≡ codes "share") × IsUnread found (codes "share") 1 100
IsNamedRefused found name (Word (Absent missing)) = ⊥
IsNamedRefused found name (Schedule Unknown) = (share : ℕ) → scheduler_named name share ≡ None
IsNamedRefused found name (Schedule SlowAlone) =
    (share : ℕ) × (scheduler : Scheduler) × IsGiven found (codes "share") 1 100 (Some share)
    × (scheduler_named name share ≡ Some scheduler) × (is_slow scheduler ≡ false)
IsNamedRefused found name _ = ⊥

-- the order that `--schedule` names; without that option, random steps if `--random` is given, and
-- rounds if not
abbrev pub IsSchedulerBy : Found → Option (List ℕ) → Scheduler → Type 0
IsSchedulerBy found None scheduler =
    (flag : Bool) × IsFlag found (codes "random") flag × (scheduler ≡ (if flag then Random else Rounds))
IsSchedulerBy found (Some name) scheduler = IsNamedScheduler found name scheduler

abbrev pub IsSchedulerOf : Found → Scheduler → Type 0
IsSchedulerOf found scheduler = IsSchedulerBy found (first_value found (codes "schedule")) scheduler

-- why that is invalid; without the option it never is
abbrev pub IsSchedulerRefused : Found → Refusal → Type 0
IsSchedulerRefused found refusal =
    (name : List ℕ) × (first_value found (codes "schedule") ≡ Some name) × IsNamedRefused found name refusal
