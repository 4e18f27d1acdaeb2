-- A watch that was given the stretches of a measured run has watched that run from its scrambled world on.
use Rattle.std.proofs.Common.{◌≡◌, refl, subst, ℕ, Bool, true, [], List, Option, Some, None}
use Rattle.std.specs.Prelude.{IsSome}
use Rattle.rand_pcg.specs.Lcg.{Lcg}
use Rattle.topology.specs.Network.{Network}
use Rattle.run_model.specs.World.{World}
use Rattle.run_model.specs.declared.event.Event.{Event}
use Rattle.judge.specs.JudgeView.{JudgeView}
use Rattle.experiments.specs.Recovery.{AreAnyLayersSeen, AreLayersSeen, beginning, IsWatched}
use Rattle.experiments.specs.Scheduled.{stretches}
use Rattle.experiments.specs.Shown.{scrambled, seeded}
use Rattle.experiments.specs.Watched.{GoesOnBy}
use Rattle.experiments.specs.declared.layers_seen.LayersSeen.{LayersSeen}
use Rattle.experiments.specs.declared.measured_run.Scheduler.{Scheduler}
use Rattle.experiments.specs.declared.watch.LastFailures.{LastFailures}

pub watched-scrambled : (scheduler : Scheduler) (net : Network) (seed count : ℕ) (layered : Bool) (w : World) (g : Lcg) (a b : JudgeView) (p q : LastFailures)
    → GoesOnBy (λ v. (stretches scheduler net v g count).0) a p b q → IsWatched (beginning w layered) [] a p
    → w ≡ scrambled net (seeded seed) → g ≡ seeded seed
    → IsWatched (beginning (scrambled net (seeded seed)) layered) (stretches scheduler net (scrambled net (seeded seed)) (seeded seed) count).0 b q
watched-scrambled scheduler net seed count layered w g a b p q goes begun is_w is_g =
    subst (λ (v : World). IsWatched (beginning v layered) (stretches scheduler net v (seeded seed) count).0 b q) is_w
    (subst (λ (h : Lcg). IsWatched (beginning w layered) (stretches scheduler net w h count).0 b q) is_g (goes (beginning w layered) [] begun))

-- one that looks at the layers has seen them
pub some-seen : (start : World) (es : List Event) (l : Option LayersSeen) → AreAnyLayersSeen true start es l → IsSome l
some-seen start es None seen = absurd seen
some-seen start es (Some l) seen = refl

pub seen-of : (start : World) (es : List Event) (l : LayersSeen) (all : Option LayersSeen) → AreAnyLayersSeen true start es all → all ≡ Some l → AreLayersSeen start es l
seen-of start es l all seen is = subst (λ a. AreAnyLayersSeen true start es a) is seen
