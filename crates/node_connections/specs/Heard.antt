-- What clients say: the bytes that a client's pipe gives, and the lines that its reader reads in them.
use Rattle.std.specs.Prelude.{◌≡◌, ℕ, List, Option, None, Some, ⊤, []}
use Rattle.byte_lines.specs.Kept.{ReadsOn, StandsAfter}
use Rattle.slab.specs.Slab.{get}
use Rattle.lock_desk.specs.ClientText.{client_line}
use Rattle.lock_desk.specs.declared.client_line.ClientLine.{ClientLine}
use Rattle.socket_links.specs.Pipes.{GoesOn}
use Rattle.node_connections.specs.declared.clients.Client.{Client}
use Rattle.node_connections.specs.declared.clients.Clients.{Clients}

module _ {P : Type 0} where
  -- the reader of a client is as it was
  abbrev pub SameReader : Option (Client P) → Option (Client P) → Type 0
  SameReader old None = ⊤
  SameReader None (Some new) = ⊤
  SameReader (Some old) (Some new) = new.reader ≡ old.reader

  -- the reader of a client, if it is there, has taken no byte
  abbrev pub HasNewReader : Option (Client P) → Type 0
  HasNewReader None = ⊤
  HasNewReader (Some client) = StandsAfter 16 [] client.reader

module _ {P : Type 0} (gave : P → Option (List ℕ)) where
  -- A client's pipe gave these bytes, and its reader took those, which ended just these lines,
  -- whatever it took before. A client that is there was there before; of one that is closed nothing
  -- is claimed.
  abbrev pub HeardAt : List ℕ → List ℕ → List ClientLine → Option (Client P) → Option (Client P)
      → Type 0
  HeardAt given read lines old None = ⊤
  HeardAt given read lines None (Some new) = ⊥
  HeardAt given read lines (Some old) (Some new) =
      GoesOn given (gave old.pipe) (gave new.pipe)
      × ReadsOn 16 client_line old.reader new.reader read lines

module _ {P A : Type 0} (gave : P → Option (List ℕ)) where
  -- nothing was heard from anybody: no pipe gave a byte, and no reader took one
  abbrev pub NothingHeard : Clients P A → Clients P A → Type 0
  NothingHeard old new = (t : ℕ) → HeardAt gave [] [] [] (get old.table t) (get new.table t)
