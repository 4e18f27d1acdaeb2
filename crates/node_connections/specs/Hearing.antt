-- What a port hears: a connection comes, and frames come on it.
use Rattle.std.specs.Prelude.{◌≡◌, ◌≢◌, ℕ, true, false, is_some, List, slice_get, Option, None, ◌⊎◌, []}
use Rattle.topology.specs.declared.frame.Frame.{Frame}
use Rattle.topology.specs.declared.frame.Ranges.{Ranges}
use Rattle.socket_links.specs.Counts.{Counts}
use Rattle.socket_links.specs.Links.{HasBroken, IsBare, PullsOn, PushesOn}
use Rattle.socket_links.specs.declared.link.SocketLink.{SocketLink}
use Rattle.node_connections.specs.declared.port.NodePort.{NodePort}
use Rattle.node_connections.specs.Ports.{AtBoth}

-- The connection of a port stands as it stood; or there is a new one, of which nothing is kept yet.
abbrev pub Wires : {P : Type 0} → NodePort P → NodePort P → Type 0
Wires old new =
    ((new.link ≡ old.link) × (new.is_stuck ≡ old.is_stuck))
    ⊎ ((is_some new.link.pipe ≡ true) × IsBare new.link × (new.is_stuck ≡ false))

-- this holds at each port
abbrev pub AreWired : {P : Type 0} → List (NodePort P) → List (NodePort P) → Type 0
AreWired ports wired = (w : ℕ) → AtBoth Wires (slice_get ports w) (slice_get wired w)

-- this holds at the port with this id, and no other port changed
abbrev pub IsWiredAt : {P : Type 0} → ℕ → List (NodePort P) → List (NodePort P) → Type 0
IsWiredAt id ports wired =
    AtBoth Wires (slice_get ports id) (slice_get wired id)
    × ((w : ℕ) → w ≢ id → slice_get wired w ≡ slice_get ports w)

-- These frames came, one after the other: they are the next good lines of what the link's pipe
-- gave. What was written stands; and on a link without a pipe nothing comes.
pub record HasCome {P : Type 0} (r : Ranges) (gave took : P → Option (List ℕ))
    (frames : List Frame) (old new : SocketLink P) : Type 0 where
  pub pulled : PullsOn r gave frames old new
  pub pushed : PushesOn took [] old new
  pub stands : is_some new.pipe ≡ is_some old.pipe
  pub loose : old.pipe ≡ None → frames ≡ []

-- The port's link was pulled, and these frames came. The greeting stays, and so does whether the
-- port is stuck.
pub record Comes {P : Type 0} (r : Ranges) (gave took : P → Option (List ℕ)) (frames : List Frame)
    (old new : NodePort P) : Type 0 where
  pub come : HasCome r gave took frames old.link new.link
  pub rest : (new.greeting ≡ old.greeting) × (new.is_stuck ≡ old.is_stuck)

-- the port's pipe closed or failed, as its counts show, and was let go; the greeting stays, and so
-- does whether the port is stuck
abbrev pub Breaks : {P : Type 0} → (P → Counts) → NodePort P → NodePort P → Type 0
Breaks counts old new =
    HasBroken counts old.link new.link
    × ((new.greeting ≡ old.greeting) × (new.is_stuck ≡ old.is_stuck))

-- The port's link was pulled any number of times, or not at all: these frames came, and then the
-- port stands, or its pipe closed or failed.
pub record Pulls {P : Type 0} (r : Ranges) (gave took : P → Option (List ℕ)) (counts : P → Counts)
    (frames : List Frame) (old new : NodePort P) : Type 0 where
  pub last : NodePort P
  pub comes : Comes r gave took frames old last
  pub ends : (new ≡ last) ⊎ Breaks counts last new
