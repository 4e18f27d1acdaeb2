-- What clients give if each is read once: at most a piece, 64 bytes. One that gave a whole piece may have more.
use Rattle.std.specs.Prelude.{◌≡◌, ◌↔◌, ◌≤◌, ◌==◌, ℕ, Bool, true, List, Option, None, Some, length, take, []}
use Rattle.slab.specs.Slab.{get}
use Rattle.node_connections.specs.socket_links.Counts.{Counts}
use Rattle.node_connections.specs.socket_links.Pipes.{Reads}
use Rattle.node_connections.specs.socket_links.declared.pipe.ReadAnswer.{ReadAnswer}
use Rattle.node_connections.specs.socket_links.declared.pipe.ReadAnswer.TheVariants as read
use Rattle.node_connections.specs.declared.clients.Client.{Client}
use Rattle.node_connections.specs.declared.clients.Clients.{Clients}

-- what a read with this answer gave: the bytes at the front of its buffer, or none
abbrev pub given_by : ReadAnswer → List ℕ → List ℕ
given_by (read.Got n) buffer = take n buffer
given_by read.Later buffer = []
given_by read.Closed buffer = []
given_by read.Failed buffer = []

module _ {P : Type 0} (gave took : P → Option (List ℕ)) (counts : P → Counts) where
  -- one read of the pipe gave just these bytes, or none
  abbrev pub IsGivenByRead : List ℕ → P → P → Type 0
  IsGivenByRead bytes p q =
      (answer : ReadAnswer) × (buffer : List ℕ) × (bytes ≡ given_by answer buffer)
      × Reads answer buffer (gave p) (gave q) (counts p) (counts q) × (took q ≡ took p)

  -- A client was read once, which gave just these bytes. One that is still there has given nothing after that. A
  -- client that was not there gave none.
  abbrev pub GivesAt : List ℕ → Option (Client P) → Option (Client P) → Type 0
  GivesAt bytes None new = bytes ≡ []
  GivesAt bytes (Some old) None = (q : P) × IsGivenByRead bytes old.pipe q
  GivesAt bytes (Some old) (Some new) =
      (q : P) × IsGivenByRead bytes old.pipe q × (gave new.pipe ≡ gave q)

  -- a client gave at most a piece, and may have more if that was a whole one, and only then
  pub record GivesPiece (may_have_more : Bool) (old new : Option (Client P)) : Type 0 where
    pub bytes : List ℕ
    pub gives : GivesAt bytes old new
    pub within : length bytes ≤ 64
    pub whole : may_have_more ≡ (length bytes == 64)

module _ {P A : Type 0} (gave took : P → Option (List ℕ)) (counts : P → Counts) where
  -- Each client gave at most a piece. Some may have more if one gave a whole piece, and only then. The bytes are
  -- those of each client, by its ticket.
  pub record GivePieces (may_have_more : Bool) (old new : Clients P A) : Type 0 where
    pub bytes : ℕ → List ℕ
    pub give : (t : ℕ) → GivesAt gave took counts (bytes t) (get old.table t) (get new.table t)
    pub within : (t : ℕ) → length (bytes t) ≤ 64
    pub whole : (may_have_more ≡ true) ↔ ((t : ℕ) × (length (bytes t) ≡ 64))
