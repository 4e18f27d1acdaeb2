-- A link that is one connection of bytes after another: what its ends say of one connection, and
-- what becomes of the frames under way when a connection ends.
use Rattle.std.specs.Prelude.{◌≡◌, ℕ, zero, suc, ◌<◌, IsTrue, List, [], ◌∷◌, ◌++◌, drop, length, map}
use Rattle.std.specs.List.{AllByRecursion}
use Rattle.topology.specs.declared.frame.Frame.{Frame}
use Rattle.topology.specs.declared.frame.Ranges.{Ranges}
use Rattle.topology.specs.Ranges.{frame_fits}
use Rattle.link_model.specs.declared.item.Item.{Item}
use Rattle.link_model.specs.declared.item.Item.TheVariants as item
use Rattle.byte_lines.specs.Lines.{newline, half_line}
use Rattle.frame_codec.specs.Spelling.{spelling}
use Rattle.frame_codec.specs.Lines.{good_lines}
use Rattle.processes.specs.Links.{Act, Accepts, Gives, Loses, the_accepts, the_gives, AreInOrder}

-- ---- frames

-- the frames that some acts accept, in order
abbrev pub accepted_frames : List Act → List Frame
accepted_frames [] = []
accepted_frames (Accepts t f ∷ acts) = f ∷ accepted_frames acts
accepted_frames (Gives t f ∷ acts) = accepted_frames acts
accepted_frames (Loses t i ∷ acts) = accepted_frames acts

-- those that they give
abbrev pub given_frames : List Act → List Frame
given_frames [] = []
given_frames (Accepts t f ∷ acts) = given_frames acts
given_frames (Gives t f ∷ acts) = f ∷ given_frames acts
given_frames (Loses t i ∷ acts) = given_frames acts

-- With n frames under way at first: nothing is lost, by count no frame is given before it was
-- accepted, and a frame is accepted only while fewer than `capacity` are under way.
abbrev pub IsWithin : ℕ → ℕ → List Act → Type 0
IsWithin capacity n [] = Unit {0}
IsWithin capacity n (Accepts t f ∷ acts) = (n < capacity) × IsWithin capacity (suc n) acts
IsWithin capacity zero (Gives t f ∷ acts) = ⊥
IsWithin capacity (suc n) (Gives t f ∷ acts) = IsWithin capacity n acts
IsWithin capacity n (Loses t i ∷ acts) = ⊥

-- One connection keeps order and loses nothing: what was under way, and then what was accepted, is
-- what was given, and then what is left.
pub record KeepsOrder (capacity : ℕ) (way : List Frame) (acts : List Act) (left : List Frame)
    : Type 0 where
  pub kept : way ++ accepted_frames acts ≡ given_frames acts ++ left
  pub within : IsWithin capacity (length way) acts

-- what is left on such a connection
abbrev pub left_after : List Frame → List Act → List Frame
left_after way acts = drop (length (given_frames acts)) (way ++ accepted_frames acts)

-- a connection that ended, and when
pub record Ended : Type 0 where
  pub acts : List Act
  pub instant : ℕ

-- all that is under way is lost at that instant
abbrev pub all_lost : ℕ → List Frame → List Act
all_lost t [] = []
all_lost t (f ∷ way) = Loses t 0 ∷ all_lost t way

-- the history of a link that was one connection after another, with its last one's acts: when a
-- connection ended, all that was left on it was lost
abbrev pub history_over : List Frame → List Ended → List Act → List Act
history_over way [] acts = acts
history_over way (c ∷ cs) acts =
    c.acts ++ (all_lost c.instant (left_after way c.acts) ++ history_over [] cs acts)

-- each of the connections keeps order and loses nothing
abbrev pub KeepOrder : ℕ → List Frame → List Ended → List Act → List Frame → Type 0
KeepOrder capacity way [] acts last = KeepsOrder capacity way acts last
KeepOrder capacity way (c ∷ cs) acts last =
    KeepsOrder capacity way c.acts (left_after way c.acts) × KeepOrder capacity [] cs acts last

-- frames as items of a link
abbrev pub as_items : List Frame → List Item
as_items fs = map (λ f. item.Frame f) fs

-- ---- bytes

-- the line of a frame, with its newline
abbrev pub line_of : Frame → List ℕ
line_of f = spelling f ++ newline ∷ []

-- the lines of frames, one after the other
abbrev pub lines_of : List Frame → List ℕ
lines_of [] = []
lines_of (f ∷ fs) = line_of f ++ lines_of fs

-- all of these frames are in range
abbrev pub AreInRange : Ranges → List Frame → Type 0
AreInRange r fs = AllByRecursion (λ f. IsTrue (frame_fits r f)) fs

-- One connection, as its two ends saw it. At the start junk stood between them: bytes on the wire,
-- a half line that the receiver had read, the rest of a line that the sender had begun; on a new
-- connection there is none. What was read at the one end is a beginning of the junk and then of the
-- lines of the frames that were accepted at the other; and the frames that were pulled are the good
-- lines of what was read.
pub record IsConnection (r : Ranges) (junk : List ℕ) (accepted pulled : List Frame) : Type 0 where
  pub read : List ℕ
  pub ahead : List ℕ
  pub beginning : read ++ ahead ≡ junk ++ lines_of accepted
  pub pulled_are : good_lines r read ≡ pulled

-- The connection carries these acts, with that junk at its start: its bytes make such a connection,
-- and at most `capacity` frames are under way.
pub record CarriesActs (r : Ranges) (capacity : ℕ) (junk : List ℕ) (acts : List Act) : Type 0 where
  pub bytes : IsConnection r junk (accepted_frames acts) (given_frames acts)
  pub within : IsWithin capacity (length (good_lines r junk)) acts

-- each of the connections carries its acts; junk stands on the first one alone
abbrev pub CarryActs : Ranges → ℕ → List ℕ → List Ended → List Act → Type 0
CarryActs r capacity junk [] acts = CarriesActs r capacity junk acts
CarryActs r capacity junk (c ∷ cs) acts =
    CarriesActs r capacity junk c.acts × CarryActs r capacity [] cs acts

-- A link of bytes: one connection after another, each of which carries its acts. At the start whole
-- lines stand on it, those of frames that are under way, or any others. What is accepted is what the
-- one end sent, what is given is what the other end took, and when a connection ends, all that is
-- left on it is lost. All of this is in order by instants; so no frame is accepted at an instant at
-- which one is given, and a connection ends later than its last act if frames are left on it.
pub record IsLinkOfBytes (r : Ranges) (capacity : ℕ) (junk : List ℕ) (sent taken : List Act)
    (cs : List Ended) (acts : List Act) : Type 0 where
  pub whole : half_line junk ≡ []
  pub connections : CarryActs r capacity junk cs acts
  pub accepted : the_accepts (history_over (good_lines r junk) cs acts) ≡ sent
  pub given : the_gives (history_over (good_lines r junk) cs acts) ≡ taken
  pub in_order : AreInOrder (history_over (good_lines r junk) cs acts)

-- what is left on the last connection
abbrev pub left_over : List Frame → List Ended → List Act → List Frame
left_over way [] acts = left_after way acts
left_over way (c ∷ cs) acts = left_over [] cs acts
