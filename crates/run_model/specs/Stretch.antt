-- A stretch event by event: what must be kept to know when it is a sweep.
use Rattle.std.specs.Prelude.{ℕ, List, map}
use Rattle.link_model.specs.Acts.{Origin, Before}
pub use Rattle.link_model.specs.OldItems.{origins_after, old_count, old_after, takes_new}
use Rattle.run_model.specs.World.{World}
use Rattle.run_model.specs.Sweep.{link_act}
use Rattle.run_model.specs.declared.event.Event.{Event}

-- the origins of the items under way from u to v after a stretch
abbrev pub origins_in : World → List Event → ℕ → ℕ → List Origin
origins_in w es u v = origins_after w.net.capacity 0 (map (link_act u v) es) (map (λ item. Before) (w.link u v))

-- how many of the items under way from u to v after a stretch were there before it; they are the
-- oldest
abbrev pub old_items : World → List Event → ℕ → ℕ → ℕ
old_items w es u v = old_count (origins_in w es u v)
