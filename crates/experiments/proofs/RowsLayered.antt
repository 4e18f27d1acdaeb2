-- Small examples of what is seen of the layers, and some that look like them and are none.
use Rattle.std.proofs.Common.{ℕ, true, [], Option, Some, None, refl, inl, inr, sym, arith}
use Rattle.std.proofs.lemmas.Grind.{common_steps}
use Rattle.run_model.specs.Headline.{IsServing}
use Rattle.run_model.specs.declared.event.Event.TheVariants.{Tick}
use Rattle.run_model.proofs.RowsTwo.{two_nodes, calm, calm-links_stable, calm-tree_reached}
use Rattle.run_model.proofs.RowsServing.{calm-serves, two_tokens}
use Rattle.layers.specs.convergence.Legitimate.{IsLegitimate}
use Rattle.layers.specs.convergence.Ring.{IsTokenRingGood}
use Rattle.experiments.specs.Layered.{HoldsFrom, IsSettlingOf, IsSettlingShown, IsSettlingWithin}
use Rattle.experiments.specs.Recovery.{AreAnyLayersFirst, AreAnyLayersSeen, AreLayersNow, AreLayersSeen, AnyLayersGoOn, unseen}
use Rattle.experiments.specs.declared.layered_run.Settling.{Settling}
use Rattle.experiments.specs.declared.layers_seen.LayersSeen.{LayersSeen}
use Rattle.experiments.specs.declared.measured_run.Scheduler.TheVariants as scheduler
use Rattle.experiments.proofs.RowsDelays.{needs-some}
use Rattle.experiments.proofs.RowsMeasured.{last-now, none-counted, sharp-two}

calm-ring : IsTokenRingGood calm
calm-ring = inl (refl, inl (refl, inl (refl, inl (refl, inl (refl, inl (refl, tt))))))

calm-legitimate : IsLegitimate calm
calm-legitimate = record { links = calm-links_stable; tree = calm-tree_reached; ring = calm-ring; desks = λ v l lends. absurd cc }

-- ---- the layers along a run

abbrev seen : ℕ → Option ℕ → LayersSeen
seen events links = record { events = events; links = links; tree = None; ring = None; settled = true }

-- in a calm world all layers stand
stands : AreLayersNow calm 4 unseen (seen 0 None)
stands = record {
  links = inl (calm-links_stable, refl);
  tree = inl (calm-tree_reached, refl);
  ring = inl (calm-ring, refl);
  settled = λ s. calm-legitimate;
}

stands_not-unstable : ¬ AreLayersNow calm 4 unseen (seen 0 (Some 4))
stands_not-unstable now = elim now.links [ inl holds ↦ grind (arith, holds.1) | inr fails ↦ fails.0 calm-links_stable ]

-- a watch that looks at the layers has seen them at once, and one that does not never does
first : AreAnyLayersFirst calm 4 true (Some (seen 0 None))
first = (refl, stands)

first_not-nothing : ¬ AreAnyLayersFirst calm 4 true None
first_not-nothing none = none

goes-without : AnyLayersGoOn calm (Tick 0) 4 None None
goes-without = tt

goes_not-away : (l : LayersSeen) → ¬ AnyLayersGoOn calm (Tick 0) 4 (Some l) None
goes_not-away l goes = goes

seen-calm : AreLayersSeen calm [] (seen 0 None)
seen-calm = record {
  events_are = refl;
  links = (calm-links_stable, tt);
  tree = (calm-tree_reached, tt);
  ring = (calm-ring, tt);
  settled = λ s. calm-legitimate;
}

seen_not-events : ¬ AreLayersSeen calm [] (seen 3 None)
seen_not-events are = grind (arith, common_steps, are.events_are)

seen_not-nothing : ¬ AreAnyLayersSeen true calm [] None
seen_not-nothing none = none

-- ---- runs

-- two tokens at the end of a list without a sweep: it served after one sweep at the earliest
from-one : HoldsFrom IsServing two_tokens [] 1
from-one = (Some 0, last-now, refl)

from_not-none : ¬ HoldsFrom IsServing two_tokens [] 0
from_not-none h = needs-some h.0 h.1 (sym h.2)

abbrev settling : ℕ → ℕ → Settling
settling links served = record { seed = 4; events = 0; links = links; tree = 0; ring = 0; served = served; seen = 0 }

shows : IsSettlingShown calm [] (settling 0 0)
shows = record {
  undamaged = refl;
  events_are = refl;
  links = (None, (calm-links_stable, tt), refl);
  tree = (None, (calm-tree_reached, tt), refl);
  ring = (None, (calm-ring, tt), refl);
  served = (None, (calm-serves, tt), refl);
  count = 0;
  counted = none-counted calm (omega arith);
  seen_are = refl;
}

shows_not-served : ¬ IsSettlingShown two_tokens [] (settling 0 0)
shows_not-served s = from_not-none s.served

-- the links of two nodes are stable after six sweeps at the latest, and two nodes serve after 35
within-most : IsSettlingWithin two_nodes (settling 6 35)
within-most = record { links = omega arith; tree = omega arith; ring = omega arith; served = omega (arith, sharp-two) }

within_not-links : ¬ IsSettlingWithin two_nodes (settling 7 35)
within_not-links w = omega (arith, w.links)

within_not-served : ¬ IsSettlingWithin two_nodes (settling 6 36)
within_not-served w = omega (arith, sharp-two, w.served)

-- a run bears its seed
run_not-another : ¬ IsSettlingOf two_nodes scheduler.Rounds 5 (settling 0 0)
run_not-another is = grind (arith, is.seed_is)
