-- The clients that are connected to a node.
use Rattle.std.specs.Prelude.{◌≡◌, ◌≢◌, ◌⊎◌, ℕ, ◌<◌, ◌≤◌, Bool, false, is_some, ⊤, List, ◌++◌, ◌-◌, length, slice_index_or, codes, []}
use Rattle.circular_buffer.specs.Buffer.{buffer}
use Rattle.slab.specs.Slab.{get}
use Rattle.lock_desk.specs.declared.act.DeskAct.{DeskAct}
use Rattle.lock_desk.specs.declared.act.DeskAct.TheVariants as act
use Rattle.socket_links.specs.declared.pipe.ReadAnswer.{ReadAnswer}
use Rattle.socket_links.specs.declared.pipe.ReadAnswer.TheVariants as read
use Rattle.node_connections.specs.declared.clients.Clients.{Clients}

-- a read gives at most this many bytes
abbrev pub GivesWithin : ReadAnswer → ℕ → Type 0
GivesWithin (read.Got n) most = n ≤ most
GivesWithin read.Later most = ⊤
GivesWithin read.Closed most = ⊤
GivesWithin read.Failed most = ⊤

module _ {P A : Type 0} where
  -- a client with this ticket is connected
  abbrev pub is_connected : Clients P A → ℕ → Bool
  is_connected clients t = is_some (get clients.table t)

  -- the same clients are connected
  abbrev pub SameClients : Clients P A → Clients P A → Type 0
  SameClients old new = (t : ℕ) → is_connected new t ≡ is_connected old t

  -- the bytes that wait for the client with this ticket
  abbrev pub answers_of : Clients P A → ℕ → List ℕ
  answers_of clients t = (slice_index_or clients.answers.items t (buffer [] 0)).items

  -- how many more bytes may wait for that client
  abbrev pub room_of : Clients P A → ℕ → ℕ
  room_of clients t =
      (slice_index_or clients.answers.items t (buffer [] 0)).capacity
      - length (answers_of clients t)

  -- The answer waits after what waited for the client; or there was no room for it, and the client
  -- is closed. Nothing else has changed.
  abbrev pub Reports : List ℕ → ℕ → Clients P A → Clients P A → Type 0
  Reports text t old new =
      (((answers_of new t ≡ answers_of old t ++ text) × (get new.table t ≡ get old.table t))
      ⊎ ((t < 128 → room_of old t < length text) × (is_connected new t ≡ false)))
      × ((u : ℕ) → u ≢ t
      → (answers_of new u ≡ answers_of old u) × (get new.table u ≡ get old.table u))

  -- what a tick says to clients: to one whose loan it began, or to one whose loan it ended
  abbrev pub IsReported : DeskAct → Clients P A → Clients P A → Type 0
  IsReported act.Quiet old new = new ≡ old
  IsReported (act.Granted t) old new = Reports (codes "granted\n") t old new
  IsReported (act.Lost t) old new = Reports (codes "lost\n") t old new
