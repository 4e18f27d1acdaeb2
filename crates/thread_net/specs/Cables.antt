-- The rings that join nodes: how their ends belong together, and which ports a node has.
use Rattle.std.specs.Prelude.{◌≡◌, ℕ, ◌<◌, ◌≤◌, ◌==◌, ◌&&◌, false, if◌then◌else◌, IsTrue, Option, Some, None}
use Rattle.std.specs.Prelude.{List, [], ◌∷◌, ◌++◌, All, map, drop, length, slice_index_or}
use Rattle.rtrb.specs.Ring.{sent, received, IsPair}
use Rattle.topology.specs.Network.{Network, are_joined, neighbours_of}
use Rattle.topology.specs.Ranges.{ranges_of}
use Rattle.link_model.specs.declared.item.Item.{Item}
use Rattle.judge.specs.node_core.View.{NodeView}
use Rattle.judge.specs.run_model.World.{World, item_fits}
use Rattle.judge.specs.configuration.LinksView.{LinksView, under_way}
use Rattle.node_runner.specs.weaving.declared.journal.Journal.{Journal}
use Rattle.node_runner.specs.weaving.declared.journal.Stamped.{Stamped}
use Rattle.node_runner.specs.weaving.Matched.{items}
use Rattle.node_runner.specs.declared.ports.Outgoing.{Outgoing}
use Rattle.node_runner.specs.declared.ports.Incoming.{Incoming}
use Rattle.node_runner.specs.declared.runner.RunnerPort.{RunnerPort}
use Rattle.node_runner.specs.declared.runner.Runner.{Runner}
use Rattle.node_runner.specs.Runner.{IsPortNoted}

-- they are the two ends of one link
abbrev pub AreEnds : {A : Type 0} → Outgoing A → Incoming A → Type 0
AreEnds o i = IsPair o.frames i.frames × IsPair i.places o.places

-- each is the far end of the other's links
abbrev pub IsCable : {A : Type 0} → RunnerPort A → RunnerPort A → Type 0
IsCable p q = AreEnds p.outgoing q.incoming × AreEnds q.outgoing p.incoming

-- the ports of each runner
abbrev pub rows_of : {A : Type 0} → List (Runner A) → List (List (RunnerPort A))
rows_of runners = map (λ r. r.ports.items) runners

-- the ports of x; if x is no node, it has none
abbrev pub row : {A : Type 0} → List (List (RunnerPort A)) → ℕ → List (RunnerPort A)
row rows x = slice_index_or rows x []

-- the neighbours that some ports lead to
abbrev pub ids_in : {A : Type 0} → List (RunnerPort A) → List ℕ
ids_in ports = map (λ p. p.neighbour) ports

-- what a runner has besides its ports
abbrev pub Seat : Type 0 → Type 0
Seat A = ℕ × NodeView × ℕ × Journal A

abbrev pub seat_of : {A : Type 0} → Runner A → Seat A
seat_of r = (r.id, r.node, r.clock, r.journal)

abbrev pub seats_of : {A : Type 0} → List (Runner A) → List (Seat A)
seats_of runners = map seat_of runners

-- no link holds more than its capacity
abbrev pub AreWithin : LinksView → Type 0
AreWithin l = (u v : ℕ) → IsTrue (are_joined l.net.edges u v) → length (under_way l u v) ≤ l.net.capacity

-- these are the world's network and links
abbrev pub IsOver : World → LinksView → Type 0
IsOver w l = (w.net ≡ l.net) × (w.link ≡ under_way l)

-- the first port that leads to a node
abbrev pub port_to : {A : Type 0} → List (RunnerPort A) → ℕ → Option (RunnerPort A)
port_to [] v = None
port_to (p ∷ ps) v = if p.neighbour == v then Some p else port_to ps v

-- both ports are there, and are the ends of the same links
abbrev pub IsCableOn : {A : Type 0} → Option (RunnerPort A) → Option (RunnerPort A) → Type 0
IsCableOn (Some p) (Some q) = IsCable p q
IsCableOn (Some p) None = ⊥
IsCableOn None q = ⊥

-- u and v have ports to each other, the ends of the same links
abbrev pub IsCableBetween : {A : Type 0} → List (List (RunnerPort A)) → ℕ → ℕ → Type 0
IsCableBetween rows u v = IsCableOn (port_to (row rows u) v) (port_to (row rows v) u)

-- this holds of every two nodes that are joined
abbrev pub AreCabled : {A : Type 0} → Network → List (List (RunnerPort A)) → Type 0
AreCabled net rows = (u v : ℕ) → IsTrue (are_joined net.edges u v) → IsCableBetween rows u v

-- the pair of i and j, in this order, is not that of u and v
abbrev pub IsOtherPair : ℕ → ℕ → ℕ → ℕ → Type 0
IsOtherPair i j u v = (i == u && j == v) ≡ false

-- one thing at each of two nodes, and none at any other
abbrev pub ends_at : {X : Type 0} → ℕ → X → ℕ → X → ℕ → List X
ends_at u near v far x = if x == u then near ∷ [] else (if x == v then far ∷ [] else [])

-- One more cable joins u and v: its ends are the last ports of the two, are as a run from a world
-- over these links begins with them, and lead to each other.
pub record IsCabledOnce {A : Type 0} (l : LinksView) (u v : ℕ) (rows more : List (List (RunnerPort A))) : Type 0 where
  pub near : RunnerPort A
  pub far : RunnerPort A
  pub to_far : near.neighbour ≡ v
  pub to_near : far.neighbour ≡ u
  pub said : (w : World) → IsOver w l → IsPortNoted w u [] near × IsPortNoted w v [] far
  pub cable : IsCable near far
  pub grown : (x : ℕ) → row more x ≡ row rows x ++ ends_at u near v far x

-- Each node has a port to each of its neighbours, in ascending order, as a run from this world
-- begins with them. The ports of neighbours to each other are the ends of the same links.
pub record AreFurnished {A : Type 0} (w : World) (rows : List (List (RunnerPort A))) : Type 0 where
  pub ids : (x : ℕ) → x < w.net.nodes → ids_in (row rows x) ≡ neighbours_of w.net x
  pub said : (x : ℕ) → x < w.net.nodes → All (IsPortNoted w x []) (row rows x)
  pub cabled : AreCabled w.net rows

-- what was sent at the one end and not yet taken at the other
abbrev pub left_on : {A : Type 0} → Outgoing A → Incoming A → List Item
left_on o i = items (drop (length (received i.frames)) (sent o.frames))

-- the same of two ports, if both are there
abbrev pub left_on_ports : {A : Type 0} → Option (RunnerPort A) → Option (RunnerPort A) → List Item
left_on_ports (Some p) (Some q) = left_on p.outgoing q.incoming
left_on_ports (Some p) None = []
left_on_ports None q = []

-- what was sent from u to v and not yet taken
abbrev pub left_between : {A : Type 0} → List (List (RunnerPort A)) → ℕ → ℕ → List Item
left_between rows u v = left_on_ports (port_to (row rows u) v) (port_to (row rows v) u)

-- the links once the rings have given back what is left in them
abbrev pub settled : {A : Type 0} → Network → List (List (RunnerPort A)) → (ℕ → ℕ → List Item) → ℕ → ℕ → List Item
settled net rows link u v = if are_joined net.edges u v then left_between rows u v else link u v

-- these items are no more than the capacity, and in range
abbrev pub IsRoomFor : Network → List Item → Type 0
IsRoomFor net left = (length left ≤ net.capacity) × All (λ item. IsTrue (item_fits (ranges_of net) item)) left

-- this holds of what is left on each link
abbrev pub AreSettleable : {A : Type 0} → Network → List (List (RunnerPort A)) → Type 0
AreSettleable net rows = (u v : ℕ) → IsTrue (are_joined net.edges u v) → IsRoomFor net (left_between rows u v)

-- what came in at the one end of each ring is a beginning of what went out at the other
abbrev pub IsFlushed : {A : Type 0} → Outgoing A → Incoming A → Type 0
IsFlushed o i =
    ((left : List Stamped) × (received i.frames ++ left ≡ sent o.frames))
    × ((back : List ℕ) × (received o.places ++ back ≡ sent i.places))

-- both ports are there, and this holds of the link from the one to the other
abbrev pub IsFlushedOn : {A : Type 0} → Option (RunnerPort A) → Option (RunnerPort A) → Type 0
IsFlushedOn (Some p) (Some q) = IsFlushed p.outgoing q.incoming
IsFlushedOn (Some p) None = ⊥
IsFlushedOn None q = ⊥

-- the same of the ports of u and v to each other
abbrev pub IsFlushedBetween : {A : Type 0} → List (List (RunnerPort A)) → ℕ → ℕ → Type 0
IsFlushedBetween rows u v = IsFlushedOn (port_to (row rows u) v) (port_to (row rows v) u)
