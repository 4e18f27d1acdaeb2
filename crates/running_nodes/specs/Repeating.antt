-- Turns with their instants, and links that are up: what a node gives its ports again and again.
use Rattle.std.specs.Prelude.{◌≡◌, ◌≢◌, ◌⊎◌, ℕ, ◌≤◌, true, false, List, [], ◌∷◌, ◌++◌, Option, map, slice_get, slice_index_or, ⊤}
use Rattle.std.specs.List.{AllByRecursion}
use Rattle.node_core.specs.declared.ticked.Ticked.{Ticked}
use Rattle.pace.specs.declared.pace.Plan.{Plan}
use Rattle.socket_links.specs.Counts.{Counts}
use Rattle.node_core.specs.Deeds.{Deed, sent_to}
use Rattle.node_loop.specs.Moments.{Moment}
use Rattle.node_loop.specs.node_connections.Speaking.{takes_frames}
use Rattle.node_loop.specs.Turns.{Attends, Turns}
use Rattle.processes.specs.Accounts.{Timed, deeds}
use Rattle.processes.specs.Turns.{Turn}

-- A turn, or what was done between two: its first and its last instant, what the node did and when,
-- and how it was after it.
pub record TimedTurn (P : Type 0) : Type 0 where
  pub when : Turn
  pub did : List Timed
  pub after : Moment P

-- when the turns were
abbrev pub whens : {P : Type 0} → List (TimedTurn P) → List Turn
whens ts = map (λ t. t.when) ts

-- all that the node did in them, in order
abbrev pub all_did : {P : Type 0} → List (TimedTurn P) → List Timed
all_did [] = []
all_did (t ∷ ts) = t.did ++ all_did ts

-- the first of the turns began at that instant or before
abbrev pub BeginsBy : {P : Type 0} → ℕ → List (TimedTurn P) → Type 0
BeginsBy start [] = ⊥
BeginsBy start (t ∷ ts) = t.when.begins ≤ start

-- A turn does not end before it begins, each deed is done within it, and the turns that follow do
-- not begin before it ends.
pub record IsInTime {P : Type 0} (t : TimedTurn P) (ts : List (TimedTurn P)) : Type 0 where
  pub lasts : t.when.begins ≤ t.when.ends
  pub deeds_are : AllByRecursion (λ d. (t.when.begins ≤ d.instant) × (d.instant ≤ t.when.ends)) t.did
  pub later : AllByRecursion (λ next. t.when.ends ≤ next.when.begins) ts

-- The link to w was up: when the plan was made it took frames, and if one was offered on it, it
-- accepted one.
pub record WasUp {P : Type 0} (w : ℕ) (at : Moment P) (plan : Plan) (account : List Deed) : Type 0 where
  pub takes : takes_frames (slice_get at.ports w) ≡ true
  pub accepts : slice_index_or plan.offers w false ≡ true → sent_to w account ≢ []

module _ {P : Type 0} (gave took : P → Option (List ℕ)) (counts : P → Counts) where
  -- It was a turn, or what is done between two, which was called with that reading of the clock; and
  -- the link to w was up.
  abbrev pub IsTurnUp : ℕ → ℕ → List Deed → Moment P → Moment P → Type 0
  IsTurnUp w now account old new =
      ((says : Ticked) × (t : Turns gave took counts says now old new) × (account ≡ t.account)
      × WasUp w t.acted t.plan account)
      ⊎ ((t : Attends gave took counts now old new) × (account ≡ t.account)
      × WasUp w t.heard t.plan account)

  -- The node went by these turns, from that moment on. Each turn's instants are readings of the
  -- node's clock, the first of them the one that it was called with. The link to w was up throughout.
  abbrev pub GoesUp : ℕ → Moment P → List (TimedTurn P) → Type 0
  GoesUp w old [] = ⊤
  GoesUp w old (t ∷ ts) =
      IsTurnUp w t.when.begins (deeds t.did) old t.after × IsInTime t ts × GoesUp w t.after ts
