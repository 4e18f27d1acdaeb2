-- Which acts hand an item over, old or new.
use Rattle.std.specs.Prelude.{ℕ, List, ◌∷◌}
use Rattle.link_model.specs.declared.item.Item.{Item}
use Rattle.link_model.specs.Acts.{LinkAct, Takes}

-- 1 if the act takes one of these items, else 0
abbrev pub takes_item : LinkAct → List Item → ℕ
takes_item Takes (item ∷ items) = 1
takes_item _ items = 0
