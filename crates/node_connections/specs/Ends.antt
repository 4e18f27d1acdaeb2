-- Clients that are closed: each has a cause.
use Rattle.std.specs.Prelude.{◌≡◌, ◌⊎◌, ◌<◌, ◌++◌, ℕ, List, Option, None, Some, length, ⊤, []}
use Rattle.lock_desk.specs.declared.client_line.ClientLine.{ClientLine}
use Rattle.socket_links.specs.Counts.{Counts}
use Rattle.socket_links.specs.Pipes.{Reads}
use Rattle.socket_links.specs.declared.pipe.ReadAnswer.{ReadAnswer}
use Rattle.socket_links.specs.declared.pipe.ReadAnswer.TheVariants as read
use Rattle.node_connections.specs.declared.clients.Client.{Client}
use Rattle.node_connections.specs.Heard.{HeardAt}
use Rattle.node_connections.specs.Lives.{FailsAt, Lives}

-- a pipe that says so has closed or failed
abbrev pub IsOfGone : ReadAnswer → Type 0
IsOfGone (read.Got n) = ⊥
IsOfGone read.Later = ⊥
IsOfGone read.Closed = ⊤
IsOfGone read.Failed = ⊤

module _ {P : Type 0} where
  -- What became of a client that had these lines, with these answers. If it is still there, the answers wait
  -- after what waited for it; if it was closed, that had this cause. A client that was not there had no lines.
  abbrev pub Fares : (Client P → Type 0) → Option (Client P) → List ℕ → Option (Client P) → List ℕ
      → List ClientLine → List ℕ → Type 0
  Fares Cause None waited None waits lines answers = (lines ≡ []) × (answers ≡ [])
  Fares Cause None waited (Some new) waits lines answers = ⊥
  Fares Cause (Some old) waited None waits lines answers = Cause old
  Fares Cause (Some old) waited (Some new) waits lines answers = waits ≡ waited ++ answers

module _ {P : Type 0} (gave took : P → Option (List ℕ)) (counts : P → Counts) where
  -- a read of the pipe said that it closed or failed
  abbrev pub SaysGone : P → Type 0
  SaysGone p =
      (q : P) × (answer : ReadAnswer) × (bytes : List ℕ) × IsOfGone answer
      × Reads answer bytes (gave p) (gave q) (counts p) (counts q) × (took q ≡ took p)

  -- The client's pipe gave bytes, or none, which ended these lines; and then a read of it said that it
  -- closed or failed.
  pub record IsGone (old : Client P) (lines : List ClientLine) : Type 0 where
    pub last : Client P
    pub bytes : List ℕ
    pub lives : Lives gave took counts old.pipe last.pipe
    pub heard : HeardAt gave bytes bytes lines (Some old) (Some last)
    pub gone : SaysGone last.pipe

  -- The client's pipe gave what is given. Its reader took a front part of the bytes, which ended these lines;
  -- and there was no room for the answers to them: at most 256 bytes may wait for a client.
  pub record HasNoRoom (given bytes : List ℕ) (old : Client P) (waited : List ℕ)
      (lines : List ClientLine) (answers : List ℕ) : Type 0 where
    pub last : Client P
    pub front : List ℕ
    pub rest : List ℕ
    pub lives : Lives gave took counts old.pipe last.pipe
    pub heard : HeardAt gave given front lines (Some old) (Some last)
    pub bytes_are : bytes ≡ front ++ rest
    pub no_room : 256 < length (waited ++ answers)

  -- What became of a client that was read and served. It was closed only if its pipe was gone, or if there
  -- was no room for an answer.
  abbrev pub EndsAt : Option (Client P) → List ℕ → Option (Client P) → List ℕ → List ClientLine → List ℕ
      → Type 0
  EndsAt old waited new waits lines answers =
      Fares
      (λ client.
      IsGone client lines
      ⊎ ((bytes : List ℕ) × HasNoRoom bytes bytes client waited lines answers))
      old waited new waits lines answers

  -- the same for bytes that its pipe gave before: it was closed only if there was no room for an
  -- answer
  abbrev pub EndsWithin : List ℕ → Option (Client P) → List ℕ → Option (Client P) → List ℕ
      → List ClientLine → List ℕ → Type 0
  EndsWithin bytes old waited new waits lines answers =
      Fares (λ client. HasNoRoom [] bytes client waited lines answers) old waited new waits lines answers

  -- a client that was closed when answers were written had lived on until a write to it failed
  abbrev pub EndsByWrite : Option (Client P) → Option (Client P) → Type 0
  EndsByWrite None new = ⊤
  EndsByWrite (Some old) (Some new) = ⊤
  EndsByWrite (Some old) None =
      (last : Client P) × (failed : Client P) × Lives gave took counts old.pipe last.pipe
      × FailsAt gave took counts (Some last) (Some failed)
