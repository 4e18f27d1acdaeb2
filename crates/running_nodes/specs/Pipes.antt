-- The two ends of a connection; and a link between two nodes that is one connection after another.
use Rattle.std.specs.Prelude.{◌≡◌, ℕ, List, [], ◌∷◌, ◌++◌, Option, Some, None, length, ⊤}
use Rattle.std.specs.Prelude.{option_to_list}
use Rattle.topology.specs.declared.frame.Frame.{Frame}
use Rattle.topology.specs.declared.frame.Ranges.{Ranges}
use Rattle.byte_lines.specs.Lines.{half_line}
use Rattle.frame_codec.specs.Lines.{good_lines}
use Rattle.socket_links.specs.Links.{unsent}
use Rattle.processes.specs.Links.{Act, the_accepts, the_gives, AreInOrder}
use Rattle.processes.specs.Connections.{accepted_frames, given_frames, IsWithin, Ended}
use Rattle.processes.specs.Connections.{history_over}
use Rattle.running_nodes.specs.Stood.{Stood}

-- A connection as the two nodes saw it: at the sender's port, and at the receiver's. Either node
-- may not have taken it up, or not in this stretch.
pub record Ends (P : Type 0) : Type 0 where
  pub out : Option (Stood P)
  pub into : Option (Stood P)

-- the frames that were sent at an end
abbrev pub sent_at : {P : Type 0} → Option (Stood P) → List Frame
sent_at None = []
sent_at (Some c) = c.sent

-- those that were taken
abbrev pub taken_at : {P : Type 0} → Option (Stood P) → List Frame
taken_at None = []
taken_at (Some c) = c.taken

-- all connections of the sender's port, in order
abbrev pub outs_of : {P : Type 0} → List (Ends P) → List (Stood P)
outs_of [] = []
outs_of (e ∷ es) = option_to_list e.out ++ outs_of es

-- all of the receiver's
abbrev pub intos_of : {P : Type 0} → List (Ends P) → List (Stood P)
intos_of [] = []
intos_of (e ∷ es) = option_to_list e.into ++ intos_of es

module _ {P : Type 0} where
  -- since the start of the connection its pipe gave these bytes
  pub record GaveSince (gave : P → Option (List ℕ)) (c : Stood P) (bytes : List ℕ) : Type 0 where
    pub pipe : P
    pub stands : c.link.pipe ≡ Some pipe
    pub all : gave pipe ≡ Some (c.start.given ++ bytes)

  -- these bytes are what its pipe took since the start, and then what it has yet to take
  pub record TookSince (took : P → Option (List ℕ)) (c : Stood P) (bytes : List ℕ) : Type 0 where
    pub pipe : P
    pub taken : List ℕ
    pub stands : c.link.pipe ≡ Some pipe
    pub reports : took pipe ≡ Some taken
    pub all : taken ++ unsent c.link ≡ c.start.taken ++ bytes

  -- Junk stood between the two ends at first, and then came what the sender's pipe took: what the
  -- receiver's pipe gave is a beginning of that.
  pub record IsOneStream (gave took : P → Option (List ℕ)) (junk : List ℕ) (out into : Stood P)
      : Type 0 where
    pub given : List ℕ
    pub taken : List ℕ
    pub ahead : List ℕ
    pub gives : GaveSince gave into given
    pub takes : TookSince took out taken
    pub beginning : given ++ ahead ≡ junk ++ taken

  -- the same without a sender: what the receiver's pipe gave is a beginning of the junk
  pub record IsOnlyRead (gave : P → Option (List ℕ)) (junk : List ℕ) (into : Stood P) : Type 0 where
    pub given : List ℕ
    pub ahead : List ℕ
    pub gives : GaveSince gave into given
    pub beginning : given ++ ahead ≡ junk

  -- the ends of a connection are joined; at an end that was not taken up nothing is asked
  abbrev pub AreEnds : (P → Option (List ℕ)) → (P → Option (List ℕ)) → List ℕ → Option (Stood P)
      → Option (Stood P) → Type 0
  AreEnds gave took junk out None = ⊤
  AreEnds gave took junk None (Some into) = IsOnlyRead gave junk into
  AreEnds gave took junk (Some out) (Some into) = IsOneStream gave took junk out into

  -- These acts are what happened on that connection: its ends are joined, what was accepted is what
  -- was sent at the one end, what was given is what was taken at the other, and at most `capacity`
  -- frames were under way.
  pub record Carries (r : Ranges) (capacity : ℕ) (gave took : P → Option (List ℕ)) (junk : List ℕ)
      (acts : List Act) (ends : Ends P) : Type 0 where
    pub joined : AreEnds gave took junk ends.out ends.into
    pub accepted : accepted_frames acts ≡ sent_at ends.out
    pub given : given_frames acts ≡ taken_at ends.into
    pub within : IsWithin capacity (length (good_lines r junk)) acts

  -- this holds of each connection of a link; junk stands on the first one alone
  abbrev pub CarryOn : Ranges → ℕ → (P → Option (List ℕ)) → (P → Option (List ℕ)) → List ℕ
      → List Ended → List Act → List (Ends P) → Type 0
  CarryOn r capacity gave took junk [] acts [] = ⊥
  CarryOn r capacity gave took junk [] acts (e ∷ []) = Carries r capacity gave took junk acts e
  CarryOn r capacity gave took junk [] acts (e ∷ more ∷ es) = ⊥
  CarryOn r capacity gave took junk (c ∷ cs) acts [] = ⊥
  CarryOn r capacity gave took junk (c ∷ cs) acts (e ∷ es) =
      Carries r capacity gave took junk c.acts e × CarryOn r capacity gave took [] cs acts es

  -- A link of pipes: the connections of the sender's port and those of the receiver's, joined two by
  -- two, one after another. At the start whole lines stand on it. Its acts are the deeds of the two
  -- nodes, at their instants; when a connection ends, all that is left on it is lost.
  pub record IsLinkOfPipes (r : Ranges) (capacity : ℕ) (gave took : P → Option (List ℕ))
      (junk : List ℕ) (sent taken : List Act) (cs : List Ended) (acts : List Act)
      (ends : List (Ends P)) (outs intos : List (Stood P)) : Type 0 where
    pub whole : half_line junk ≡ []
    pub carries : CarryOn r capacity gave took junk cs acts ends
    pub outs_are : outs_of ends ≡ outs
    pub intos_are : intos_of ends ≡ intos
    pub accepted : the_accepts (history_over (good_lines r junk) cs acts) ≡ sent
    pub given : the_gives (history_over (good_lines r junk) cs acts) ≡ taken
    pub in_order : AreInOrder (history_over (good_lines r junk) cs acts)
