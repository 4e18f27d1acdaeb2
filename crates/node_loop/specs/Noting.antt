-- What is noted of the deeds of a turn.
use Rattle.std.specs.Prelude.{◌≡◌, ℕ, Bool, List, ◌++◌, All, Option}
use Rattle.node_core.specs.View.{NodeView}
use Rattle.node_core.specs.declared.ticked.Ticked.{Ticked}
use Rattle.topology.specs.declared.frame.Frame.{Frame}
use Rattle.node_connections.specs.socket_links.Counts.{Counts}
use Rattle.node_service.specs.Deeds.{Deed, Became, IsLeave}
use Rattle.node_loop.specs.Hearing.{Hears, Listens, TakesAt}
use Rattle.node_loop.specs.Moments.{Moment}
use Rattle.node_service.specs.NotesView.{NotesView}
use Rattle.node_service.specs.Noting.{after_all, emptied}
use Rattle.node_loop.specs.Speaking.{Speaks}
use Rattle.node_loop.specs.Turns.{Attends, Turns}
use Rattle.node_connections.specs.declared.port.NodePort.{NodePort}

-- The node took frames at one port, and just these were noted.
pub record DidTake {P : Type 0} (R : List Frame → NodePort P → NodePort P → Type 0) (id : ℕ)
    (old new : NodeView) (ports pulled : List (NodePort P)) (before after : NotesView) : Type 0 where
  pub takes : TakesAt R id old new ports pulled
  pub noted : after ≡ after_all takes.takes.deeds before

-- The node took frames at its ports, and just these were noted.
pub record DidHear {P : Type 0} (gave took : P → Option (List ℕ)) (counts : P → Counts)
    (old new : NodeView) (ports pulled : List (NodePort P)) (before after : NotesView) : Type 0 where
  pub hears : Hears gave took counts old new ports pulled
  pub noted : after ≡ after_all hears.takes.deeds before

-- The first part of a turn, of which just its deeds were noted.
pub record DidListen {P : Type 0} (gave took : P → Option (List ℕ)) (counts : P → Counts)
    (old new : Moment P) (before after : NotesView) : Type 0 where
  pub listens : Listens gave took counts old new
  pub noted : after ≡ after_all (listens.hears.takes.deeds ++ listens.serves.deeds) before

-- The node spoke to its neighbours, and then some tickets left, each by a deed of this kind; just that was
-- noted.
pub record DidSpeak {P : Type 0} (kind : Deed → Type 0) (gave took : P → Option (List ℕ)) (counts : P → Counts)
    (offers : List Bool) (now : ℕ) (old new : Moment P) (before after : NotesView) : Type 0 where
  pub speaks : Speaks gave took counts offers now old new
  pub leaves : Became IsLeave old.node new.node
  pub kinds : All kind leaves.deeds
  pub noted : after ≡ after_all (speaks.sends ++ leaves.deeds) before

-- A turn whose whole account is noted, in order, as far as there is room.
pub record TurnIsNoted {P : Type 0} (gave took : P → Option (List ℕ)) (counts : P → Counts)
    (says : Ticked) (now : ℕ) (old new : Moment P) (before after : NotesView) : Type 0 where
  pub turns : Turns gave took counts says now old new
  pub noted : after ≡ after_all turns.account (emptied before)

-- The same for what is done between two turns.
pub record AttendIsNoted {P : Type 0} (gave took : P → Option (List ℕ)) (counts : P → Counts)
    (now : ℕ) (old new : Moment P) (before after : NotesView) : Type 0 where
  pub attends : Attends gave took counts now old new
  pub noted : after ≡ after_all attends.account (emptied before)
