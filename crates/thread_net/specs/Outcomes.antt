-- What starting a runner results in, and what comes back.
use Rattle.std.specs.Prelude.{◌≡◌, ℕ, Bool, true, false, ◌&&◌, if◌then◌else◌, List, [], ◌∷◌, map, slice_index_or}
use Rattle.std.specs.declared.alloc.Global.{Global}
use Rattle.node_runner.specs.declared.runner.Runner.{Runner}
use Rattle.thread_net.specs.declared.threads.ReturnedRunner.{ReturnedRunner}
use Rattle.thread_net.specs.declared.threads.StartedRunner.{StartedRunner}
use Rattle.thread_net.specs.declared.threads.StartedRunner.TheVariants.{Running, Back}
pub use Rattle.thread_net.specs.Keeps.{Keeps, MayRun, HasRun}

-- the runner after all its turns, or as it was
abbrev pub IsOutcomeOf : ℕ → Runner Global → ReturnedRunner → Type 0
IsOutcomeOf turns r o = Keeps turns r o.runner o.ran

-- its thread was started, or it came back at once
abbrev pub IsStartOf : ℕ → Runner Global → StartedRunner → Type 0
IsStartOf turns r (Running h) = (h.promise.runner.value ≡ r) × (h.promise.turns ≡ turns)
IsStartOf turns r (Back o) = IsOutcomeOf turns r o

-- the runners that came back
abbrev pub runners_in : List ReturnedRunner → List (Runner Global)
runners_in outcomes = map (λ o. o.runner) outcomes

-- all of them ran
abbrev pub have_run : List ReturnedRunner → Bool
have_run [] = true
have_run (o ∷ os) = o.ran && have_run os

-- whether v ran
abbrev pub has_run : List ReturnedRunner → ℕ → Bool
has_run outcomes v = slice_index_or (map (λ o. o.ran) outcomes) v false

-- for how many turns v ran
abbrev pub turns_of : ℕ → List ReturnedRunner → ℕ → ℕ
turns_of turns outcomes v = if has_run outcomes v then turns else 0
