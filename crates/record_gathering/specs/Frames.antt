-- Frames that are under way.
use Rattle.std.specs.Prelude.{ℕ, ◌+◌, Bool, false, if◌then◌else◌, List, [], ◌∷◌}
use Rattle.std.specs.List.{list_any}
use Rattle.topology.specs.declared.frame.Frame.{Frame}
use Rattle.flight_records.specs.Again.{same_frame}
use Rattle.configuration.specs.link_model.declared.item.Item.{Item}
use Rattle.configuration.specs.link_model.declared.item.Item.TheVariants as item

-- the item is this frame
abbrev pub is_frame : Frame → Item → Bool
is_frame f (item.Frame g) = same_frame g f
is_frame f item.Noise = false

-- one of the items is this frame
abbrev pub is_under_way : Frame → List Item → Bool
is_under_way f items = list_any (is_frame f) items

-- how many items stand in front of the first one that is this frame; all, if none is
abbrev pub in_front : Frame → List Item → ℕ
in_front f [] = 0
in_front f (x ∷ xs) = if is_frame f x then 0 else in_front f xs + 1
