-- What contracts see of a link.
use Rattle.std.specs.Prelude.{ℕ, List}
use Rattle.link_model.specs.declared.item.Item.{Item}

-- the items under way, oldest first, and how many there may be
pub record LinkView : Type 0 where
  pub capacity : ℕ
  pub items : List Item

abbrev pub link : ℕ → List Item → LinkView
link c xs = record { capacity = c; items = xs }
