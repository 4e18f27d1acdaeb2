-- Clients that live on: if one is still connected, no read and no write said that it is gone.
use Rattle.std.specs.Prelude.{◌≡◌, ◌≢◌, ◌⊎◌, ◌<◌, ℕ, true, false, List, Option, None, Some, length, ⊤, []}
use Rattle.byte_streams.specs.Streams.{Rose}
use Rattle.slab.specs.Slab.{get}
use Rattle.socket_links.specs.Counts.{Counts}
use Rattle.socket_links.specs.Pipes.{Reads, Writes}
use Rattle.socket_links.specs.declared.pipe.ReadAnswer.{ReadAnswer}
use Rattle.socket_links.specs.declared.pipe.ReadAnswer.TheVariants as read
use Rattle.socket_links.specs.declared.pipe.WriteAnswer.TheVariants as write
use Rattle.node_connections.specs.declared.clients.Client.{Client}
use Rattle.node_connections.specs.declared.clients.Clients.{Clients}
use Rattle.node_connections.specs.Clients.{answers_of, is_connected}
use Rattle.node_connections.specs.Heard.{HasNewReader}

-- a pipe that says so has neither closed nor failed
abbrev pub IsOfLive : ReadAnswer → Type 0
IsOfLive (read.Got n) = ⊤
IsOfLive read.Later = ⊤
IsOfLive read.Closed = ⊥
IsOfLive read.Failed = ⊥

-- The pipe came to this by some reads and writes, or by none; and none of them said that it closed
-- or failed. A read writes nothing, and a write reads nothing.
pub data Lives {P : Type 0} (gave took : P → Option (List ℕ)) (counts : P → Counts)
    : P → P → Type 0 where
  Stays : {p : P} → Lives gave took counts p p
  Gave : {p q : P} (n : ℕ) (bytes : List ℕ)
      → Reads (read.Got n) bytes (gave p) (gave q) (counts p) (counts q) → took q ≡ took p
      → Lives gave took counts p q
  Gives_later : {p q : P} (bytes : List ℕ)
      → Reads read.Later bytes (gave p) (gave q) (counts p) (counts q) → took q ≡ took p
      → Lives gave took counts p q
  Took : {p q : P} (n : ℕ) (bytes : List ℕ)
      → Writes (write.Wrote n) bytes (took p) (took q) (counts p) (counts q) → gave q ≡ gave p
      → Lives gave took counts p q
  Takes_later : {p q : P} (bytes : List ℕ)
      → Writes write.Later bytes (took p) (took q) (counts p) (counts q) → gave q ≡ gave p
      → Lives gave took counts p q
  Then : {p q r : P} → Lives gave took counts p q → Lives gave took counts q r
      → Lives gave took counts p r

module _ {P : Type 0} (gave took : P → Option (List ℕ)) (counts : P → Counts) where
  -- a client that is there was there before, and its pipe lives on
  abbrev pub LivesAt : Option (Client P) → Option (Client P) → Type 0
  LivesAt old None = ⊤
  LivesAt None (Some new) = ⊥
  LivesAt (Some old) (Some new) = Lives gave took counts old.pipe new.pipe

  -- what a read of the client with a ticket says of its pipe
  abbrev pub ReadsAt : ReadAnswer → List ℕ → Option (Client P) → Option (Client P) → Type 0
  ReadsAt answer bytes None new = (new ≡ None) × (answer ≡ read.Closed)
  ReadsAt answer bytes (Some old) None = ⊥
  ReadsAt answer bytes (Some old) (Some new) =
      Reads answer bytes (gave old.pipe) (gave new.pipe) (counts old.pipe) (counts new.pipe)
      × (took new.pipe ≡ took old.pipe)

module _ {P : Type 0} (gave took : P → Option (List ℕ)) (counts : P → Counts) where
  -- a read of the pipe gave bytes, or it said Later: it has none now
  abbrev pub IsRead : P → P → Type 0
  IsRead p q =
      (answer : ReadAnswer) × (bytes : List ℕ) × IsOfLive answer
      × Reads answer bytes (gave p) (gave q) (counts p) (counts q) × (took q ≡ took p)

  -- such a read is among what the pipe lived through
  pub record LivesThroughRead (p q : P) : Type 0 where
    pub before : P
    pub after : P
    pub lives : Lives gave took counts p before
    pub read : IsRead before after
    pub lives_on : Lives gave took counts after q

  -- a client that is there was there before, and it was read; of one that is closed nothing is claimed
  abbrev pub IsReadAt : Option (Client P) → Option (Client P) → Type 0
  IsReadAt old None = ⊤
  IsReadAt None (Some new) = ⊥
  IsReadAt (Some old) (Some new) = LivesThroughRead old.pipe new.pipe

module _ {P : Type 0} (gave took : P → Option (List ℕ)) (counts : P → Counts) where
  -- there is a client, and a write to its pipe failed
  abbrev pub FailsAt : Option (Client P) → Option (Client P) → Type 0
  FailsAt None new = ⊥
  FailsAt (Some old) None = ⊥
  FailsAt (Some old) (Some new) =
      (bytes : List ℕ)
      × Writes write.Failed bytes (took old.pipe) (took new.pipe) (counts old.pipe) (counts new.pipe)
      × (gave new.pipe ≡ gave old.pipe)

-- What waited for a client has begun to go out: nothing waited; or some of it went out; or the pipe would
-- not take it now, and said Later. Of a client that is closed nothing is claimed.
abbrev pub GoesOutAt : {P : Type 0} → (P → Counts) → Option (Client P) → List ℕ → Option (Client P) → List ℕ → Type 0
GoesOutAt counts None waited new waits = ⊤
GoesOutAt counts (Some old) waited None waits = ⊤
GoesOutAt counts (Some old) waited (Some new) waits =
    (waited ≡ []) ⊎ ((length waits < length waited) ⊎ Rose (counts old.pipe).later (counts new.pipe).later)

module _ {P A : Type 0} where
  -- only the client with this ticket may have changed
  abbrev pub OthersStay : ℕ → Clients P A → Clients P A → Type 0
  OthersStay ticket old new = (t : ℕ) → t ≢ ticket → get new.table t ≡ get old.table t

  -- Clients came, or none did. Nothing waits for them yet, and their readers have taken nothing. A client
  -- that was connected is as before, and so is what waits for it.
  abbrev pub Admits : Clients P A → Clients P A → Type 0
  Admits old new =
      (t : ℕ)
      → (is_connected old t ≡ true
      → (get new.table t ≡ get old.table t) × (answers_of new t ≡ answers_of old t))
      × (is_connected old t ≡ false → is_connected new t ≡ true
      → (answers_of new t ≡ []) × HasNewReader (get new.table t))

module _ {P A : Type 0} (gave took : P → Option (List ℕ)) (counts : P → Counts) where
  -- a client that was connected and still is lives on; others may have come
  abbrev pub StillLive : Clients P A → Clients P A → Type 0
  StillLive old new =
      (t : ℕ) → is_connected old t ≡ true
      → LivesAt gave took counts (get old.table t) (get new.table t)

  -- each client that is there lives on
  abbrev pub LiveOn : Clients P A → Clients P A → Type 0
  LiveOn old new = (t : ℕ) → LivesAt gave took counts (get old.table t) (get new.table t)

module _ {P A : Type 0} (counts : P → Counts) where
  -- this holds for each client
  abbrev pub AllGoOut : Clients P A → Clients P A → Type 0
  AllGoOut old new = (t : ℕ) → GoesOutAt counts (get old.table t) (answers_of old t) (get new.table t) (answers_of new t)

module _ {P A : Type 0} (gave took : P → Option (List ℕ)) (counts : P → Counts) where
  -- each client that is still there was read; a ticket is below 128
  abbrev pub AllRead : Clients P A → Clients P A → Type 0
  AllRead old new = (t : ℕ) → t < 128 → IsReadAt gave took counts (get old.table t) (get new.table t)
