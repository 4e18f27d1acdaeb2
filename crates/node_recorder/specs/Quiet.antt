-- Turns in which nobody needs the node.
use Rattle.std.specs.List.{list_all}
use Rattle.std.specs.Prelude.{Bool, true, false, List}
use Rattle.flight_recorder.specs.flight_records.declared.entry.Deed.{Deed}
use Rattle.flight_recorder.specs.flight_records.declared.entry.Deed.TheVariants as deed

-- no frame was taken or sent, and no client asked for the lock or left
abbrev pub is_silent : Deed → Bool
is_silent deed.Ticks = true
is_silent (deed.Takes from frame) = false
is_silent (deed.TakesAgain from) = false
is_silent (deed.Sends to frame) = false
is_silent (deed.SendsAgain to) = false
is_silent (deed.Asks ticket) = false
is_silent (deed.Leaves ticket) = false
is_silent (deed.Joins neighbour) = true
is_silent (deed.Parts neighbour) = true
is_silent (deed.Connects neighbour) = true
is_silent (deed.Disconnects neighbour) = true

-- a turn with these deeds was quiet
abbrev pub is_quiet : List Deed → Bool
is_quiet ds = list_all is_silent ds
