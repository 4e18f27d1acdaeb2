-- What the judge of a list of events has shown.
use Rattle.std.specs.Prelude.{◌≡◌, ◌≤◌, Bool, true, false, List, Option, None, Some}
use Rattle.std.specs.List.{list_any}
use Rattle.topology.specs.Network.{Network}
use Rattle.topology.specs.Eccentricity.{sharp_of}
use Rattle.run_model.specs.Start.{default_world}
use Rattle.run_model.specs.Run.{run}
use Rattle.run_model.specs.World.{World}
use Rattle.run_model.specs.declared.event.Event.{Event}
use Rattle.run_model.specs.declared.event.Event.TheVariants.{Damage}
use Rattle.experiments.specs.Shown.{IsShown}
use Rattle.experiments.specs.declared.delay.Delay.{Delay}

-- an event is a harm, whether it is accepted or not
abbrev pub is_harm : Event → Bool
is_harm (Damage h) = true
is_harm _ = false

-- the events show the delay, and the network served after the sharper bound at the latest
abbrev pub IsDelayOf : World → List Event → Delay → Type 0
IsDelayOf start events d = IsShown start events d.sweeps d.seen × (d.sweeps ≤ sharp_of start.net)

-- harms have happened in the default world of a network, and then these events show the delay; there is none if one of them is a harm
abbrev pub IsReplayed : Network → List Event → List Event → Option Delay → Type 0
IsReplayed net harms events None = list_any is_harm events ≡ true
IsReplayed net harms events (Some d) = IsDelayOf (run (default_world net) harms) events d
