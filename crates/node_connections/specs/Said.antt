-- What is said to clients: the bytes that a client's pipe took, and then those that wait for it.
use Rattle.std.specs.Prelude.{◌≡◌, ◌≢◌, ℕ, List, ◌∷◌, ◌++◌, Option, None, Some, option_map, ⊤, []}
use Rattle.slab.specs.Slab.{get}
use Rattle.lock_desk.specs.declared.client_line.ClientLine.{ClientLine}
use Rattle.socket_links.specs.Counts.{Counts}
use Rattle.socket_links.specs.Pipes.{GoesOn}
use Rattle.node_connections.specs.declared.clients.Client.{Client}
use Rattle.node_connections.specs.declared.clients.Clients.{Clients}
use Rattle.node_connections.specs.Clients.{answers_of}
use Rattle.node_connections.specs.Ends.{EndsAt, EndsByWrite, EndsWithin}
use Rattle.node_connections.specs.Heard.{HeardAt, NothingHeard}
use Rattle.node_connections.specs.Lives.{AllGoOut, LiveOn}

module _ {P : Type 0} (took : P → Option (List ℕ)) where
  -- all that was said to a client for whom these bytes wait; none if its pipe does not say
  abbrev pub said : Client P → List ℕ → Option (List ℕ)
  said client waits = option_map (λ bytes. bytes ++ waits) (took client.pipe)

  -- A client that is there was there before, and just these further bytes were said to it. Of a
  -- client that is closed nothing is claimed.
  abbrev pub SaidAt : List ℕ → Option (Client P) → List ℕ → Option (Client P) → List ℕ → Type 0
  SaidAt more old waited None waits = ⊤
  SaidAt more None waited (Some new) waits = ⊥
  SaidAt more (Some old) waited (Some new) waits = GoesOn more (said old waited) (said new waits)

module _ {P A : Type 0} (took : P → Option (List ℕ)) where
  -- just these further bytes were said to the client with this ticket, unless it is closed
  abbrev pub IsSaid : List ℕ → ℕ → Clients P A → Clients P A → Type 0
  IsSaid more t old new =
      SaidAt took more (get old.table t) (answers_of old t) (get new.table t) (answers_of new t)

  -- nothing more was said to anybody: what waited still waits, or went out
  abbrev pub NothingSaid : Clients P A → Clients P A → Type 0
  NothingSaid old new = (t : ℕ) → IsSaid [] t old new

module _ {P A : Type 0} (gave : P → Option (List ℕ)) (old new : Clients P A) where
  -- the client's reader took these bytes, and they ended these lines; no other client's reader took
  -- any
  abbrev pub IsHeardAlone : ℕ → List ℕ → ℕ → List ClientLine → Type 0
  IsHeardAlone ticket read t lines =
      (t ≡ ticket → HeardAt gave [] read lines (get old.table t) (get new.table t))
      × (t ≢ ticket → HeardAt gave [] [] lines (get old.table t) (get new.table t))

  -- a client's pipe gave some bytes, or none; its reader took just these, and they ended these lines
  abbrev pub IsHeard : ℕ → List ClientLine → Type 0
  IsHeard t lines =
      (bytes : List ℕ) × HeardAt gave bytes bytes lines (get old.table t) (get new.table t)

-- the client had this line and this answer, and no other client had one
abbrev pub IsLineAlone : ℕ → ClientLine → List ℕ → ℕ → List ClientLine → List ℕ → Type 0
IsLineAlone ticket line answer t lines answers =
    (t ≡ ticket → (lines ≡ line ∷ []) × (answers ≡ answer))
    × (t ≢ ticket → (lines ≡ []) × (answers ≡ []))

module _ {P A : Type 0} (gave took : P → Option (List ℕ)) (counts : P → Counts) (old new : Clients P A) where
  -- the client was heard and had these lines, with these answers; and if it was closed, that has a cause
  abbrev pub IsServed : ℕ → List ClientLine → List ℕ → Type 0
  IsServed t lines answers =
      IsHeard gave old new t lines
      × EndsAt gave took counts (get old.table t) (answers_of old t) (get new.table t) (answers_of new t)
      lines answers

  -- the same for these bytes of one client, and for no others
  abbrev pub IsServedAlone : ℕ → List ℕ → ℕ → List ClientLine → List ℕ → Type 0
  IsServedAlone ticket read t lines answers =
      IsHeardAlone gave old new ticket read t lines
      × (t ≡ ticket → EndsWithin gave took counts read (get old.table t) (answers_of old t)
      (get new.table t) (answers_of new t) lines answers)
      × (t ≢ ticket → EndsWithin gave took counts [] (get old.table t) (answers_of old t)
      (get new.table t) (answers_of new t) lines answers)

module _ {P A : Type 0} (gave took : P → Option (List ℕ)) (counts : P → Counts) where
  -- Answers were written to clients: nothing was heard from anybody, and nothing more said. What waited for
  -- a client has begun to go out, as far as its pipe took it. A client that was closed had a write that failed.
  pub record WritesOut (old new : Clients P A) : Type 0 where
    pub lives : LiveOn gave took counts old new
    pub hears_nothing : NothingHeard gave old new
    pub says_nothing : NothingSaid took old new
    pub goes_out : AllGoOut counts old new
    pub ends : (t : ℕ) → EndsByWrite gave took counts (get old.table t) (get new.table t)
