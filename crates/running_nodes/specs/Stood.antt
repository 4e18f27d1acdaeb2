-- The connections of a port, one after the other, with what was taken and sent on each.
use Rattle.std.specs.Prelude.{◌≡◌, ℕ, true, is_some, List, [], ◌∷◌, ◌++◌, Option}
use Rattle.std.specs.List.{AllByRecursion}
use Rattle.topology.specs.declared.frame.Frame.{Frame}
use Rattle.topology.specs.declared.frame.Ranges.{Ranges}
use Rattle.socket_links.specs.Links.{IsPulled, IsPushed}
use Rattle.socket_links.specs.declared.link.SocketLink.{SocketLink}
use Rattle.processes.specs.Connections.{lines_of}

-- What the pipe of a connection had given and taken when it was taken up: a hello, as a rule. For a
-- connection that stood at the start of the stretch, given is all but the half line that was read
-- of the next frame, and taken is all that was accepted by then, whether it was written or not.
pub record Start : Type 0 where
  pub given : List ℕ
  pub taken : List ℕ

-- A connection of a port: its start, the frames that were taken and sent on it, in order, and the
-- link as it stood when it was last seen with that pipe: at the end of the stretch, or just before
-- the pipe closed, failed, or was replaced.
pub record Stood (P : Type 0) : Type 0 where
  pub start : Start
  pub taken : List Frame
  pub sent : List Frame
  pub link : SocketLink P

-- the frames that were taken on some connections, one after the other
abbrev pub all_taken : {P : Type 0} → List (Stood P) → List Frame
all_taken [] = []
all_taken (c ∷ cs) = c.taken ++ all_taken cs

-- those that were sent
abbrev pub all_sent : {P : Type 0} → List (Stood P) → List Frame
all_sent [] = []
all_sent (c ∷ cs) = c.sent ++ all_sent cs

module _ {P : Type 0} (r : Ranges) (gave took : P → Option (List ℕ)) where
  -- The frames that were taken are the good lines of what the pipe gave since the start, as far as
  -- it was looked at. What the pipe took since, and then what is not yet written, are the lines of
  -- the frames that were sent.
  pub record IsStood (c : Stood P) : Type 0 where
    pub stands : is_some c.link.pipe ≡ true
    pub pulled : IsPulled r gave c.start.given c.taken c.link
    pub pushed : IsPushed took (c.start.taken ++ lines_of c.sent) c.link

  -- A port took these frames and sent those, on these connections, by what their pipes report.
  pub record PortWas (taken sent : List Frame) (cs : List (Stood P)) : Type 0 where
    pub each : AllByRecursion IsStood cs
    pub takes : all_taken cs ≡ taken
    pub sends : all_sent cs ≡ sent

  -- What a link keeps at the start of a stretch is what its pipe gave and what is left to write.
  -- This holds for every link without a pipe.
  pub record StartsAt (start : Start) (link : SocketLink P) : Type 0 where
    pub pulled : IsPulled r gave start.given [] link
    pub pushed : IsPushed took start.taken link
