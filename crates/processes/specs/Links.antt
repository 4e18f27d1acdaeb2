-- What happens on a directed link: it keeps order, may lose, and holds at most as many frames as
-- its capacity.
use Rattle.std.specs.Prelude.{◌≡◌, ℕ, suc, ◌*◌, ◌<◌, ◌≤◌, ◌==◌, ◌⊎◌, if◌then◌else◌, List, [], ◌∷◌, ◌++◌, length}
use Rattle.std.specs.List.{AllByRecursion, remove}
use Rattle.topology.specs.declared.frame.Frame.{Frame}
use Rattle.link_model.specs.declared.item.Item.{Item}
use Rattle.link_model.specs.declared.item.Item.TheVariants as item
use Rattle.node_core.specs.Deeds.{Deed, Sends, Takes}
use Rattle.processes.specs.Accounts.{Timed}

-- at an instant the link accepts a frame of its sender, gives a frame to its receiver, or loses the
-- item at that place of what is under way, 0 the oldest
pub data Act : Type 0 where
  Accepts : ℕ → Frame → Act
  Gives : ℕ → Frame → Act
  Loses : ℕ → ℕ → Act

-- the acts by which a link accepts frames, with their instants
abbrev pub the_accepts : List Act → List Act
the_accepts [] = []
the_accepts (Accepts t f ∷ acts) = Accepts t f ∷ the_accepts acts
the_accepts (Gives t f ∷ acts) = the_accepts acts
the_accepts (Loses t i ∷ acts) = the_accepts acts

-- those by which it gives frames
abbrev pub the_gives : List Act → List Act
the_gives [] = []
the_gives (Accepts t f ∷ acts) = the_gives acts
the_gives (Gives t f ∷ acts) = Gives t f ∷ the_gives acts
the_gives (Loses t i ∷ acts) = the_gives acts

-- and its losses
abbrev pub the_losses : List Act → List Act
the_losses [] = []
the_losses (Accepts t f ∷ acts) = the_losses acts
the_losses (Gives t f ∷ acts) = the_losses acts
the_losses (Loses t i ∷ acts) = Loses t i ∷ the_losses acts

-- what a deed at that instant is for the link that leads to u, if it is anything
abbrev pub accept_at : ℕ → ℕ → Deed → List Act
accept_at u t (Sends w f) = if w == u then Accepts t f ∷ [] else []
accept_at u t _ = []

-- what it is for the link that comes from u
abbrev pub give_at : ℕ → ℕ → Deed → List Act
give_at u t (Takes w f) = if w == u then Gives t f ∷ [] else []
give_at u t _ = []

-- what an account says that the link to u accepted
abbrev pub accepts_in : ℕ → List Timed → List Act
accepts_in u [] = []
accepts_in u (t ∷ ts) = accept_at u t.instant t.deed ++ accepts_in u ts

-- what it says that the link from u gave
abbrev pub gives_in : ℕ → List Timed → List Act
gives_in u [] = []
gives_in u (t ∷ ts) = give_at u t.instant t.deed ++ gives_in u ts

-- When an act happens, in halves of an instant: what is lost at an instant is lost before anything
-- else happens then.
abbrev pub moment : Act → ℕ
moment (Accepts t f) = suc (2 * t)
moment (Gives t f) = suc (2 * t)
moment (Loses t i) = 2 * t

-- the kind of an act: 0 accepts, 1 gives, 2 loses
abbrev pub kind : Act → ℕ
kind (Accepts t f) = 0
kind (Gives t f) = 1
kind (Loses t i) = 2

-- The one comes before the other: acts of one kind may share an instant, acts of different kinds
-- stand at different moments. So a frame is given later than it was accepted.
abbrev pub IsBefore : Act → Act → Type 0
IsBefore a b = (moment a < moment b) ⊎ ((kind a ≡ kind b) × (moment a ≤ moment b))

-- each act comes before those after it
abbrev pub AreInOrder : List Act → Type 0
AreInOrder [] = Unit {0}
AreInOrder (a ∷ acts) = AllByRecursion (IsBefore a) acts × AreInOrder acts

-- A link can do this, one act after the other, with these items under way at first, oldest first,
-- and those at last: what it accepts goes last, and needs room; what it gives is the oldest; what it
-- loses is any one of them.
abbrev pub Plays : ℕ → List Item → List Act → List Item → Type 0
Plays capacity way [] last = last ≡ way
Plays capacity way (Accepts t f ∷ acts) last =
    (length way < capacity) × Plays capacity (way ++ item.Frame f ∷ []) acts last
Plays capacity way (Gives t f ∷ acts) last =
    (rest : List Item) × (way ≡ item.Frame f ∷ rest) × Plays capacity rest acts last
Plays capacity way (Loses t i ∷ acts) last =
    (i < length way) × Plays capacity (remove way i) acts last

-- The history of a link: what it accepted is what its sender sent, what it gave is what its
-- receiver took, each at the same instant, with losses between them as the reader finds them; its
-- acts are in order by instants; and a link of that capacity, which keeps order, can do it.
pub record IsHistory (capacity : ℕ) (first : List Item) (sent taken : List Act)
    (history : List Act) (last : List Item) : Type 0 where
  pub accepted : the_accepts history ≡ sent
  pub given : the_gives history ≡ taken
  pub in_order : AreInOrder history
  pub plays : Plays capacity first history last
