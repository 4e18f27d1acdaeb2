-- What a node does after a turn that saved its state.
use Rattle.std.specs.Prelude.{Bool, true, false, not, if◌then◌else◌}
use Rattle.node_keeping.specs.declared.sight.FileSight.{FileSight}
use Rattle.node_keeping.specs.declared.sight.FileSight.TheVariants.{NotOwn}
use Rattle.node_keeping.specs.declared.saved.StopSight.{StopSight}
use Rattle.node_keeping.specs.declared.saved.StopSight.TheVariants.{Absent, Removed, Stays}
use Rattle.node_keeping.specs.declared.saved.Sights.{Sights}
use Rattle.node_keeping.specs.declared.saved.Lost.{Lost}
use Rattle.node_keeping.specs.declared.saved.AfterSave.{AfterSave}
use Rattle.node_keeping.specs.declared.saved.AfterSave.TheVariants.{Displaced, StopStays, Stop, GoOn}

-- a name that was seen to lead to no file of this node's
abbrev pub is_lost : FileSight → Bool
is_lost NotOwn = true
is_lost _ = false

-- a stop file is this node's unless the folder was seen to be another's
abbrev pub looks_for_stop : FileSight → Bool
looks_for_stop place = not (is_lost place)

-- the names of a node that are lost
abbrev pub lost_of : Sights → Lost
lost_of sights = record {
  links = is_lost sights.links;
  clients = is_lost sights.clients;
  looks = is_lost sights.looks;
}

-- a node that did not see its place lost ends if it sees a stop file, with a fault if that stays,
-- or if it is asked to; otherwise it runs on, and takes back each name that is lost
abbrev pub in_place : Sights → StopSight → AfterSave
in_place sights Stays = StopStays
in_place sights Removed = Stop
in_place sights Absent =
    if sights.is_asked then Stop else GoOn (lost_of sights)

-- a node that sees that its lock file is gone or another's ends at once
abbrev pub after_save : Sights → AfterSave
after_save sights =
    if looks_for_stop sights.place then in_place sights sights.stop else Displaced
