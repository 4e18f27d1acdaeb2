-- One edge between two nodes, near and far. Everything here is about the direction in which near
-- sends its payloads; the other direction is the same, seen from far.
use Rattle.std.specs.Prelude.{◌≡◌, ℕ, ◌+◌, ◌*◌, ◌<◌, ◌≤◌, ◌==◌, List, [], ◌∷◌, ◌++◌, length, drop, remove, if◌then◌else◌}
use Rattle.std.specs.List.{AllByRecursion}
use Rattle.link_model.specs.topology.declared.frame.Frame.{Frame}
use Rattle.link_model.specs.topology.declared.frame.Payload.{Payload}
use Rattle.link_model.specs.declared.item.Item.{Item}
use Rattle.link_model.specs.declared.item.Item.TheVariants as item
use Rattle.link_model.specs.Acts.{put_last}
use Rattle.k_state.specs.Ring.{IsGood}
use Rattle.data_link.specs.Port.{PortState, frame_of, port_after}

-- the ports of the two nodes to each other, and the items under way, oldest first: out from near to
-- far, and back
pub record EdgeState : Type 0 where
  pub near : PortState
  pub far : PortState
  pub out : List Item
  pub back : List Item

-- What can happen to an edge. The node that takes an item hands in the payload that is present:
-- what it has to say to the other node before the item. The last case is an event of the network
-- that does not touch this edge.
pub data EdgeEvent : Type 0 where
  SendOut : EdgeEvent
  SendBack : EdgeEvent
  TakeOut : (present : Payload) → EdgeEvent
  TakeBack : (present : Payload) → EdgeEvent
  LoseOut : (i : ℕ) → EdgeEvent
  LoseBack : (i : ℕ) → EdgeEvent
  Elsewhere : EdgeEvent

-- the modulus of the numbers on links of this capacity
abbrev pub modulus_of : ℕ → ℕ
modulus_of capacity = 2 * capacity + 3

-- ---- steps

-- a port takes the oldest of these items, if any; noise changes nothing in it
abbrev pub port_taking : ℕ → PortState → List Item → Payload → PortState
port_taking modulus p [] present = p
port_taking modulus p (item.Noise ∷ items) present = p
port_taking modulus p (item.Frame f ∷ items) present = port_after modulus p f present

-- the edge after an event, with this modulus of the numbers
abbrev pub edge_step_with : ℕ → ℕ → EdgeState → EdgeEvent → EdgeState
edge_step_with modulus capacity s SendOut =
    record s { out = put_last capacity s.out (item.Frame (frame_of s.near)) }
edge_step_with modulus capacity s SendBack =
    record s { back = put_last capacity s.back (item.Frame (frame_of s.far)) }
edge_step_with modulus capacity s (TakeOut present) =
    record s { far = port_taking modulus s.far s.out present; out = drop 1 s.out }
edge_step_with modulus capacity s (TakeBack present) =
    record s { near = port_taking modulus s.near s.back present; back = drop 1 s.back }
edge_step_with modulus capacity s (LoseOut i) = record s { out = remove s.out i }
edge_step_with modulus capacity s (LoseBack i) = record s { back = remove s.back i }
edge_step_with modulus capacity s Elsewhere = s

-- the edge after an event
abbrev pub edge_step : ℕ → EdgeState → EdgeEvent → EdgeState
edge_step capacity s e = edge_step_with (modulus_of capacity) capacity s e

-- the edge after a list of events
abbrev pub edge_run : ℕ → EdgeState → List EdgeEvent → EdgeState
edge_run capacity s [] = s
edge_run capacity s (e ∷ es) = edge_run capacity (edge_step capacity s e) es

-- 1 if the oldest of these items acknowledges the port's number, else 0
abbrev pub acked_by : PortState → List Item → ℕ
acked_by p [] = 0
acked_by p (item.Noise ∷ items) = 0
acked_by p (item.Frame f ∷ items) = if f.ack == p.seq then 1 else 0

-- 1 if near's number moves in the event, else 0
abbrev pub moves : EdgeState → EdgeEvent → ℕ
moves s (TakeBack present) = acked_by s.near s.back
moves s _ = 0

-- how often near's number moves in a list of events
abbrev pub moves_in : ℕ → EdgeState → List EdgeEvent → ℕ
moves_in capacity s [] = 0
moves_in capacity s (e ∷ es) = moves s e + moves_in capacity (edge_step capacity s e) es

-- ---- what an edge may look like

-- a port's numbers, and those of a frame, are below the modulus
abbrev pub IsPortBelow : ℕ → PortState → Type 0
IsPortBelow modulus p = (p.seq < modulus) × (p.last < modulus)

abbrev pub IsItemBelow : ℕ → Item → Type 0
IsItemBelow modulus item.Noise = Unit {0}
IsItemBelow modulus (item.Frame f) = (f.seq < modulus) × (f.ack < modulus)

-- every number is below the modulus, and each link holds at most as many items as its capacity
pub record IsEdgeInRange (capacity : ℕ) (s : EdgeState) : Type 0 where
  pub near : IsPortBelow (modulus_of capacity) s.near
  pub far : IsPortBelow (modulus_of capacity) s.far
  pub out : AllByRecursion (IsItemBelow (modulus_of capacity)) s.out
  pub back : AllByRecursion (IsItemBelow (modulus_of capacity)) s.back
  pub out_fits : length s.out ≤ capacity
  pub back_fits : length s.back ≤ capacity

-- one number of each frame on a link, that of the newest first
abbrev pub newest_first : (Frame → ℕ) → List Item → List ℕ
newest_first number [] = []
newest_first number (item.Noise ∷ items) = newest_first number items
newest_first number (item.Frame f ∷ items) = newest_first number items ++ number f ∷ []

-- The link ring: near's number; the numbers of the frames on their way out, newest first; the last
-- number that far accepted; the acknowledgements on their way back, newest first.
abbrev pub link_ring : EdgeState → List ℕ
link_ring s =
    s.near.seq ∷ (newest_first (λ f. f.seq) s.out ++ s.far.last ∷ newest_first (λ f. f.ack) s.back)

-- the payload that belongs to a number: the staged one to the port's own number, and this other
-- payload to every other number
abbrev pub payload_under : PortState → Payload → ℕ → Payload
payload_under p other number = if number == p.seq then p.staged else other

-- an item is noise, or carries the payload that belongs to its number
abbrev pub CarriesItsPayload : PortState → Payload → Item → Type 0
CarriesItsPayload p other item.Noise = Unit {0}
CarriesItsPayload p other (item.Frame f) = f.payload ≡ payload_under p other f.seq

-- The link is stable for numbers with this modulus: its ring is good, and there is one other
-- payload such that each frame on its way out, and far's copy, is what near has staged if it came
-- with near's number, and otherwise that other payload.
pub record IsStableWith (modulus : ℕ) (s : EdgeState) : Type 0 where
  pub good : IsGood modulus (link_ring s)
  pub other : Payload
  pub out : AllByRecursion (CarriesItsPayload s.near other) s.out
  pub copied : s.far.copy ≡ payload_under s.near other s.far.last

-- the link from near to far is stable
abbrev pub IsStable : ℕ → EdgeState → Type 0
IsStable capacity s = IsStableWith (modulus_of capacity) s
