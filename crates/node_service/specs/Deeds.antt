-- What a node does by itself: it takes frames, its clients ask and leave, it ticks, and it sends.
use Rattle.std.specs.Prelude.{◌≡◌, ℕ, ◌+◌, Bool, false, List, ◌∷◌, All, ⊤, is_none, []}
use Rattle.lock_desk.specs.Act.{desk_act}
use Rattle.node_core.specs.Step.{ticked}
use Rattle.node_core.specs.View.{NodeView, site_in, state_of}
use Rattle.node_core.specs.declared.ticked.Ticked.{Ticked}
pub use Rattle.node_core.specs.Deeds.{Deed, after_ask, Leads, taken_from, sent_to, Takes, Asks, Leaves, Ticks, Sends}

-- how many ticks there are among the deeds
abbrev pub ticks_in : List Deed → ℕ
ticks_in [] = 0
ticks_in (Takes w f ∷ ds) = ticks_in ds
ticks_in (Asks t ∷ ds) = ticks_in ds
ticks_in (Leaves t ∷ ds) = ticks_in ds
ticks_in (Ticks ∷ ds) = 1 + ticks_in ds
ticks_in (Sends w f ∷ ds) = ticks_in ds

-- the deed is a neighbour's frame
abbrev pub IsTake : Deed → Type 0
IsTake (Takes w f) = ⊤
IsTake (Asks t) = ⊥
IsTake (Leaves t) = ⊥
IsTake Ticks = ⊥
IsTake (Sends w f) = ⊥

-- the deed is a client's
abbrev pub IsOfClient : Deed → Type 0
IsOfClient (Takes w f) = ⊥
IsOfClient (Asks t) = ⊤
IsOfClient (Leaves t) = ⊤
IsOfClient Ticks = ⊥
IsOfClient (Sends w f) = ⊥

-- the deed is a ticket's leave
abbrev pub IsLeave : Deed → Type 0
IsLeave (Takes w f) = ⊥
IsLeave (Asks t) = ⊥
IsLeave (Leaves t) = ⊤
IsLeave Ticks = ⊥
IsLeave (Sends w f) = ⊥

-- the deed is the leave of a ticket that no connected client has
abbrev pub IsLeaveOfGone : (ℕ → Bool) → Deed → Type 0
IsLeaveOfGone connected (Takes w f) = ⊥
IsLeaveOfGone connected (Asks t) = ⊥
IsLeaveOfGone connected (Leaves t) = connected t ≡ false
IsLeaveOfGone connected Ticks = ⊥
IsLeaveOfGone connected (Sends w f) = ⊥

-- the deed is a frame for a neighbour
abbrev pub IsSend : Deed → Type 0
IsSend (Takes w f) = ⊥
IsSend (Asks t) = ⊥
IsSend (Leaves t) = ⊥
IsSend Ticks = ⊥
IsSend (Sends w f) = ⊤

-- some deeds of this kind led the node to what it became; what it knows of its network stayed
pub record Became (kind : Deed → Type 0) (old new : NodeView) : Type 0 where
  pub site : site_in new ≡ site_in old
  pub deeds : List Deed
  pub kinds : All kind deeds
  pub leads : Leads (site_in old) deeds (state_of old) (state_of new)

-- The node ticked once: `says` is what became of the loan and whether the tick was a full one. Then
-- some tickets left.
pub record Acts (says : Ticked) (old new : NodeView) : Type 0 where
  pub acted : NodeView
  pub act : says.act ≡ desk_act (state_of old).desk (state_of acted).desk
  pub full : says.full ≡ is_none (state_of acted).desk.lent
  pub site : site_in acted ≡ site_in old
  pub state : state_of acted ≡ ticked (site_in old) (state_of old)
  pub leaves : Became IsLeave acted new
