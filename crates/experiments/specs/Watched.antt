-- A run that is watched goes on.
use Rattle.std.specs.Prelude.{ℕ, List, [], ◌++◌}
use Rattle.std.proofs.Common.{sym, subst, append_assoc}
use Rattle.std.proofs.lemmas.List.{append-nil}
use Rattle.rand_pcg.specs.Lcg.{Lcg}
use Rattle.topology.specs.Network.{Network}
use Rattle.run_model.specs.World.{World}
use Rattle.run_model.specs.Run.{run}
use Rattle.run_model.specs.declared.event.Event.{Event}
use Rattle.judge.specs.JudgeView.{JudgeView}
use Rattle.experiments.specs.Recovery.{Beginning, IsWatched}
use Rattle.experiments.specs.Scheduled.{HasEnough, stretches}
use Rattle.experiments.specs.declared.watch.LastFailures.{LastFailures}
use Rattle.experiments.specs.declared.measured_run.Scheduler.{Scheduler}

-- whatever run was watched before, that run and then these events is watched after
abbrev pub GoesOn : JudgeView → LastFailures → List Event → JudgeView → LastFailures → Type 0
GoesOn old last es new now =
    (start : Beginning) (before : List Event) → IsWatched start before old last → IsWatched start (before ++ es) new now

-- without an event it goes nowhere
pub goes-nowhere : (judge : JudgeView) (last : LastFailures) → GoesOn judge last [] judge last
goes-nowhere judge last start before watched = subst (λ es. IsWatched start es judge last) (sym (append-nil before)) watched

-- what goes on by some events and then by others goes on by both together
pub goes-both : (a b c : JudgeView) (p q r : LastFailures) (xs ys : List Event) → GoesOn a p xs b q → GoesOn b q ys c r → GoesOn a p (xs ++ ys) c r
goes-both a b c p q r xs ys one two start before watched =
    subst (λ es. IsWatched start es c r) (append_assoc before xs ys) (two start (before ++ xs) (one start before watched))

-- whatever run was watched before, that run and then what is said of the world to which it has led
-- is watched after
abbrev pub GoesOnBy : (World → List Event) → JudgeView → LastFailures → JudgeView → LastFailures → Type 0
GoesOnBy what old last new now =
    (start : Beginning) (before : List Event) → IsWatched start before old last → IsWatched start (before ++ what (run start.world before)) new now

-- A measured run goes on by some stretches, of which there were enough.
pub record GoesOnScheduled (scheduler : Scheduler) (net : Network) (g : Lcg) (old : JudgeView) (last : LastFailures) (new : JudgeView) (now : LastFailures) : Type 0 where
  pub count : ℕ
  pub enough : HasEnough net new.sweeps count
  pub goes_on : GoesOnBy (λ w. (stretches scheduler net w g count).0) old last new now
