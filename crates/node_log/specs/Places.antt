-- Whether a node is in its place, and what is said of it.
use Rattle.std.specs.Prelude.{ℕ, Bool, true, false, ◌-◌, nat_le, if◌then◌else◌, Option, None, Some}
use Rattle.node_log.specs.declared.event.NodeEvent.{NodeEvent}
use Rattle.node_log.specs.declared.event.NodeEvent.TheVariants.{Astray, InPlace}
use Rattle.node_log.specs.declared.place.PlaceSeen.{PlaceSeen}
use Rattle.node_log.specs.declared.place.PlaceSeen.TheVariants.{Right, WrongSince, Said}

-- it is said once that a node has been out of its place for two seconds on end, and then that it is back
abbrev pub by_place : Bool → ℕ → PlaceSeen → Option NodeEvent
by_place true now Said = Some InPlace
by_place true now before = None
by_place false now (WrongSince since) = if nat_le 2000000 (now - since) then Some Astray else None
by_place false now before = None

abbrev pub place_after : Bool → ℕ → PlaceSeen → PlaceSeen
place_after true now before = Right
place_after false now Right = WrongSince now
place_after false now (WrongSince since) = if nat_le 2000000 (now - since) then Said else WrongSince since
place_after false now Said = Said
