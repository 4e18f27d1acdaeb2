-- What is made before the first turn.
use Rattle.std.specs.Prelude.{◌≡◌, ℕ, ◌≤◌, [], vec_capacity}
use Rattle.judge.specs.run_model.World.{World}
use Rattle.judge.specs.configuration.LinksView.{spare_pairs}
use Rattle.judge.specs.Stretch.{HasRoomFor}
use Rattle.thread_net.specs.declared.prepare.Prepared.{Prepared}
use Rattle.thread_net.specs.Cables.{IsOver}
use Rattle.thread_net.specs.Seats.{AreAtStart, nodes_of, total_room}
use Rattle.thread_net.specs.Tables.{AreEmptySeats}

-- The runners are at the start of `turns` turns from the world, the links are the world's, and
-- there is room for whatever comes back.
pub record IsPrepared {A : Type 0} (w : World) (turns : ℕ) (p : Prepared A) : Type 0 where
  pub runners : AreAtStart w turns p.runners.items
  pub links : IsOver w p.links
  pub spares : w.spares ≡ spare_pairs p.links
  pub room : HasRoomFor w.net p.room
  pub seats : AreEmptySeats w.net.nodes p.seats
  pub nothing : p.events.items ≡ []
  pub events : total_room turns (nodes_of p.runners.items) ≤ vec_capacity p.events
