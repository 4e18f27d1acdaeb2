-- The numbers of what is under way.
use Rattle.std.specs.Prelude.{ℕ, List, [], ◌∷◌}
use Rattle.topology.specs.declared.frame.Frame.{Frame}
use Rattle.configuration.specs.link_model.declared.item.Item.{Item}
use Rattle.configuration.specs.link_model.declared.item.Item.TheVariants as item
use Rattle.layers.specs.declared.items.FrameNumber.{FrameNumber}
use Rattle.layers.specs.declared.items.FrameNumber.TheVariants.{Own, Acknowledged}

-- the one of a frame's numbers that is meant
abbrev pub number_of : FrameNumber → Frame → ℕ
number_of Own f = f.seq
number_of Acknowledged f = f.ack

-- the number of an item, as a list: noise has none
abbrev pub numbers_of : (Frame → ℕ) → Item → List ℕ
numbers_of number item.Noise = []
numbers_of number (item.Frame f) = number f ∷ []
