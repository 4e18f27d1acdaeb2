-- What happens inside a stretch of instants: a node ticks fully, a link hands over a frame that it
-- accepted there.
use Rattle.std.specs.Prelude.{ℕ, ◌+◌, ◌≤◌, ◌<◌, Bool, false, ◌&&◌, ◌||◌, nat_le, nat_lt}
use Rattle.std.specs.Prelude.{is_none, Option, Some, None, IsTrue, List, [], ◌∷◌, ◌++◌, map}
use Rattle.std.specs.List.{remove}
use Rattle.topology.specs.Network.{are_joined}
use Rattle.link_model.specs.declared.item.Item.{Item}
use Rattle.link_model.specs.declared.item.Item.TheVariants as item
use Rattle.lock_desk.specs.Desk.{after_leave}
use Rattle.node_core.specs.Site.{Site, site_of}
use Rattle.node_core.specs.State.{LocalState}
use Rattle.node_core.specs.Step.{taken, ticked}
use Rattle.run_model.specs.World.{World}
use Rattle.node_core.specs.Deeds.{Deed, Ticks, Sends, Takes, Asks, Leaves, after_ask}
use Rattle.processes.specs.Accounts.{Timed}
use Rattle.processes.specs.Links.{Act, Accepts, Gives, Loses}

-- what a deed makes of a node; a send leaves it as it is
abbrev pub after_deed : Site → Deed → LocalState → LocalState
after_deed site Ticks s = ticked site s
after_deed site (Sends w f) s = s
after_deed site (Takes w f) s = taken site w (item.Frame f) s
after_deed site (Asks t) s = record s { desk = after_ask t s.desk }
after_deed site (Leaves t) s = record s { desk = after_leave t s.desk }

-- the instant is one of those from the first on, and before the second
abbrev pub is_in : ℕ → ℕ → ℕ → Bool
is_in from end instant = nat_le from instant && nat_lt instant end

-- the deed, from that state on, is a full tick: a tick after which the node lends to nobody
abbrev pub is_full : Site → Deed → LocalState → Bool
is_full site Ticks s = is_none (ticked site s).desk.lent
is_full site _ s = false

-- Some deed of the account is a full tick at an instant of the stretch. The account starts from
-- that state.
abbrev pub ticks_fully_in : Site → ℕ → ℕ → List Timed → LocalState → Bool
ticks_fully_in site from end [] s = false
ticks_fully_in site from end (t ∷ ts) s =
    (is_in from end t.instant && is_full site t.deed s)
    || ticks_fully_in site from end ts (after_deed site t.deed s)

-- A frame that a link handed over: when the link accepted it (none if it was under way at first),
-- and when it was given.
pub record Passage : Type 0 where
  pub accepted : Option ℕ
  pub given : ℕ

-- what is under way at first was accepted at no instant of the history
abbrev pub at_first : List Item → List (Option ℕ)
at_first items = map (λ x. None) items

-- What a history hands over, in order. Beside each item under way stands when it was accepted.
abbrev pub passages : List (Option ℕ) → List Act → List Passage
passages way [] = []
passages way (Accepts t f ∷ acts) = passages (way ++ Some t ∷ []) acts
passages [] (Gives t f ∷ acts) = passages [] acts
passages (a ∷ way) (Gives t f ∷ acts) = record { accepted = a; given = t } ∷ passages way acts
passages way (Loses t i ∷ acts) = passages (remove way i) acts

-- it was accepted at that instant or later
abbrev pub is_since : ℕ → Option ℕ → Bool
is_since from None = false
is_since from (Some t) = nat_le from t

-- some frame was accepted and given inside the stretch
abbrev pub passes_in : ℕ → ℕ → List Passage → Bool
passes_in from end [] = false
passes_in from end (p ∷ ps) =
    (is_since from p.accepted && is_in from end p.given) || passes_in from end ps

-- From the one instant to the other, each stretch of that many microseconds, or of any other unit of
-- the instants, holds a full tick of each node, and each link hands over a frame that it accepted
-- inside the stretch.
pub record MovesWithin (window start until : ℕ) (w : World) (account : ℕ → List Timed)
    (history : ℕ → ℕ → List Act) : Type 0 where
  pub ticks : (v s : ℕ) → v < w.net.nodes → start ≤ s → s + window ≤ until
      → IsTrue (ticks_fully_in (site_of w.net v) s (s + window) (account v) (w.node v))
  pub links : (u v s : ℕ) → IsTrue (are_joined w.net.edges u v) → start ≤ s → s + window ≤ until
      → IsTrue (passes_in s (s + window) (passages (at_first (w.link u v)) (history u v)))
