-- What an event does: which node ticks, and what becomes of the items of a link.
use Rattle.std.specs.Prelude.{ℕ, if◌then◌else◌, is_none, List, [], ◌∷◌}
use Rattle.link_model.specs.declared.item.Item.{Item}
use Rattle.run_model.specs.World.{World}
use Rattle.run_model.specs.Step.{step}
use Rattle.run_model.specs.declared.event.Event.{Event}
use Rattle.run_model.specs.declared.event.Event.TheVariants.{Lose, Take, Tick, Damage}
use Rattle.run_model.specs.declared.happened.Happened.{Happened}
use Rattle.run_model.specs.declared.happened.Happened.TheVariants.{FullTick, LendingTick, Taken, NothingTaken, Lost, Damaged, Other}

-- what a take does if these items are under way from u to v
abbrev pub taken_of : ℕ → ℕ → List Item → Happened
taken_of u v [] = NothingTaken u v
taken_of u v (item ∷ rest) = Taken u v

-- what an accepted event does; a tick is full if the node lends to nobody after it
abbrev pub happened : World → Event → Happened
happened w (Tick v) = if is_none ((step w (Tick v)).node v).desk.lent then FullTick v else LendingTick v
happened w (Take u v) = taken_of u v (w.link u v)
happened w (Lose u v i) = Lost u v i
happened w (Damage h) = Damaged
happened w _ = Other
