-- A whole schedule, as the list of its events.
use Rattle.std.specs.Prelude.{ℕ, ◌-◌, ◌≤◌, List, [], ◌++◌, Option, Some, None, Result, Ok, Err}
use Rattle.rand_pcg.specs.Lcg.{Lcg}
use Rattle.byte_streams.specs.Streams.{Rose}
use Rattle.topology.specs.Network.{Network}
use Rattle.run_model.specs.World.{World}
use Rattle.run_model.specs.Start.{default_world}
use Rattle.run_model.specs.Run.{run}
use Rattle.run_model.specs.declared.event.Event.{Event}
use Rattle.schedules.specs.damage_tool.Harms.{draw_world}
use Rattle.schedules.specs.Rounds.{rounds}
use Rattle.schedules.specs.Random.{random_steps}
use Rattle.experiments.specs.GivenBack.{ordered_back}
use Rattle.experiments.specs.declared.plan.Order.{Order}
use Rattle.experiments.specs.declared.plan.Order.TheVariants.{Rounds, Random}
use Rattle.experiments.specs.declared.plan.PlanFault.{PlanFault}
use Rattle.experiments.specs.declared.plan.PlanFault.TheVariants.{Memory, Sink}

-- the harms of a scramble by a generator; none if there is none
abbrev pub harms_of : Network → Option Lcg → List Event
harms_of net None = []
harms_of net (Some g) = (draw_world net g).0

-- what an order says from a world on
abbrev pub ordered : Network → World → Order → List Event
ordered net w (Rounds count) = rounds net count
ordered net w (Random steps chances g) = random_steps w chances steps g

-- the same, if each loan lasts this many ticks, at least one; for ever if no number is given
abbrev pub turns : Network → World → Option ℕ → Order → List Event
turns net w None order = ordered net w order
turns net w (Some ticks) order = ordered_back net (ticks - 1) w order

-- the harms, and then, from where they lead, what the order says
abbrev pub planned : Network → Option Lcg → Option ℕ → Order → List Event
planned net scramble loan order = harms_of net scramble ++ turns net (run (default_world net) (harms_of net scramble)) loan order

-- `Sink` is returned only if the sink's count of failures rose
abbrev pub CountsSinkFailures : {T : Type 0} → Result T PlanFault → ℕ → ℕ → Type 0
CountsSinkFailures (Ok _) failures more = failures ≤ more
CountsSinkFailures (Err Memory) failures more = failures ≤ more
CountsSinkFailures (Err Sink) failures more = (failures ≤ more) × Rose failures more
