-- What a link keeps, and what it says of the bytes that its pipe gave and took.
use Rattle.std.specs.Prelude.{◌≡◌, ◌≢◌, ℕ, ◌<◌, true, is_some, List, [], ◌∷◌, ◌++◌, length, Option, None, take, drop, MatchOption, ⊤, ◌⊎◌}
use Rattle.topology.specs.declared.frame.Frame.{Frame}
use Rattle.topology.specs.declared.frame.Ranges.{Ranges}
use Rattle.byte_lines.specs.Kept.{Kept, kept, StandsAfter}
use Rattle.byte_streams.specs.Streams.{Rose}
use Rattle.frame_codec.specs.Lines.{good_lines, frames_after, ReadsOn}
use Rattle.socket_links.specs.Counts.{Counts, HasEnded}
use Rattle.socket_links.specs.Pipes.{GoesOn}
use Rattle.socket_links.specs.declared.link.SocketLink.{SocketLink}
use Rattle.socket_links.specs.declared.writing.Flow.{Flow}
use Rattle.socket_links.specs.declared.writing.Flow.TheVariants as flow
use Rattle.socket_links.specs.declared.link.Offer.{Offer}
use Rattle.socket_links.specs.declared.link.Offer.TheVariants as offer
use Rattle.socket_links.specs.declared.link.Pull.{Pull}
use Rattle.socket_links.specs.declared.link.Pull.TheVariants as pull

-- The bytes that a pipe gave are those before the start, then those of which these frames are the
-- good lines, and then those that are still to be looked at; of the second part the reader keeps
-- the half line.
pub record HasPulled (r : Ranges) (start : List ℕ) (frames : List Frame) (gave : List ℕ)
    (reader : Kept) (waiting : List ℕ) : Type 0 where
  pub read : List ℕ
  pub parts : gave ≡ start ++ (read ++ waiting)
  pub stands : StandsAfter 21 read reader
  pub frames_are : good_lines r read ≡ frames

-- The front of what waited was looked at: these frames are its good lines, and what waits now is
-- the rest.
pub record Looks (r : Ranges) (old new : Kept) (waited waits : List ℕ) (frames : List Frame)
    : Type 0 where
  pub front : List ℕ
  pub parts : waited ≡ front ++ waits
  pub on : ReadsOn r old new front frames
  pub said : (half : List ℕ) → old ≡ kept 21 half → frames ≡ frames_after r half front

-- the answer is a frame
abbrev pub IsFrame : Pull → Type 0
IsFrame (pull.Frame f) = ⊤
IsFrame pull.Later = ⊥
IsFrame pull.Broken = ⊥

module _ {P : Type 0} where
  -- what was read and not yet looked at
  abbrev pub waiting : SocketLink P → List ℕ
  waiting link = drop link.from (take link.to link.bytes)

  -- what is not yet written of the line that was accepted last
  abbrev pub unsent : SocketLink P → List ℕ
  unsent link = drop link.sent link.line

  -- no byte is kept on either side
  abbrev pub IsBare : SocketLink P → Type 0
  IsBare link = (link.reader ≡ kept 21 []) × (waiting link ≡ []) × (unsent link ≡ [])

  -- these frames were pulled since the pipe had given what it gave at the start; nothing is said
  -- without a pipe, or of a pipe that does not show its bytes
  abbrev pub IsPulled : Ranges → (P → Option (List ℕ)) → List ℕ → List Frame → SocketLink P → Type 0
  IsPulled r gave start frames link =
      MatchOption link.pipe ⊤ (λ pipe. MatchOption (gave pipe) ⊤
      (λ bytes. HasPulled r start frames bytes link.reader (waiting link)))

  -- what the pipe took, and then what is not yet written, are these bytes; nothing is said without
  -- a pipe, or of a pipe that does not show its bytes
  abbrev pub IsPushed : (P → Option (List ℕ)) → List ℕ → SocketLink P → Type 0
  IsPushed took lines link =
      MatchOption link.pipe ⊤
      (λ pipe. MatchOption (took pipe) ⊤ (λ bytes. bytes ++ unsent link ≡ lines))

  -- whatever frames were pulled before, these were pulled since
  abbrev pub PullsOn : Ranges → (P → Option (List ℕ)) → List Frame → SocketLink P → SocketLink P
      → Type 0
  PullsOn r gave more old new =
      (start : List ℕ) (frames : List Frame) → IsPulled r gave start frames old
      → IsPulled r gave start (frames ++ more) new

  -- whatever lines were accepted before, these were accepted since
  abbrev pub PushesOn : (P → Option (List ℕ)) → List ℕ → SocketLink P → SocketLink P → Type 0
  PushesOn took more old new =
      (lines : List ℕ) → IsPushed took lines old → IsPushed took (lines ++ more) new

  -- what becomes of a line that is offered
  abbrev pub Offered : List ℕ → SocketLink P → SocketLink P → Offer → Type 0
  Offered line old new offer.Taken =
      (unsent old ≡ []) × (unsent new ≡ line) × (new.pipe ≡ old.pipe) × (is_some old.pipe ≡ true)
      × (new.reader ≡ old.reader) × (waiting new ≡ waiting old)
  Offered line old new offer.Busy = (unsent old ≢ []) × (is_some old.pipe ≡ true) × (new ≡ old)
  Offered line old new offer.Loose = (old.pipe ≡ None) × (new ≡ old)

  -- the pipe, which was there and still is, said Later in the call
  abbrev pub SaidLater : (P → Counts) → SocketLink P → SocketLink P → Type 0
  SaidLater counts old new =
      MatchOption old.pipe ⊥ (λ before.
      MatchOption new.pipe ⊥ (λ after. Rose (counts before).later (counts after).later))

  -- the pipe, which was there and still is, gave bytes in the call
  abbrev pub GaveBytes : (P → Option (List ℕ)) → SocketLink P → SocketLink P → Type 0
  GaveBytes gave old new =
      MatchOption old.pipe ⊥ (λ before. MatchOption new.pipe ⊥ (λ after.
      (bytes : List ℕ) × (0 < length bytes) × GoesOn bytes (gave before) (gave after)))

  -- The pipe that was there closed or failed in the call, as its counts show, and was let go with
  -- all that was kept.
  abbrev pub HasBroken : (P → Counts) → SocketLink P → SocketLink P → Type 0
  HasBroken counts old new =
      MatchOption old.pipe ⊥ (λ before. (after : P) × HasEnded (counts before) (counts after))
      × (new.pipe ≡ None) × IsBare new

  -- What the answers of a pull say: with a frame the pipe stays; without one nothing is left to be
  -- looked at.
  abbrev pub Pulled : Ranges → (P → Option (List ℕ)) → (P → Option (List ℕ)) → (P → Counts)
      → SocketLink P → SocketLink P → Pull → Type 0
  Pulled r gave took counts old new (pull.Frame f) =
      PullsOn r gave (f ∷ []) old new × PushesOn took [] old new × (is_some new.pipe ≡ true)
  Pulled r gave took counts old new pull.Later =
      PullsOn r gave [] old new × PushesOn took [] old new × (waiting new ≡ [])
      × MatchOption old.pipe (new.pipe ≡ None)
      (λ _. SaidLater counts old new ⊎ GaveBytes gave old new)
  Pulled r gave took counts old new pull.Broken = HasBroken counts old new

  -- what the answers of a push say: the pipe is let go only if it broke
  abbrev pub Pushed : (P → Option (List ℕ)) → (P → Option (List ℕ)) → (P → Counts) → SocketLink P
      → SocketLink P → Flow → Type 0
  Pushed gave took counts old new flow.Done =
      PushesOn took [] old new × ((r : Ranges) → PullsOn r gave [] old new) × (unsent new ≡ [])
      × (is_some new.pipe ≡ is_some old.pipe)
  Pushed gave took counts old new flow.Later =
      PushesOn took [] old new × ((r : Ranges) → PullsOn r gave [] old new)
      × SaidLater counts old new
  Pushed gave took counts old new flow.Broken = HasBroken counts old new
