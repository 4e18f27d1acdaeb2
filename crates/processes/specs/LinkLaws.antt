-- The laws of links that are one connection of bytes after another.
use Rattle.std.specs.Prelude.{◌≡◌, ℕ, List, [], ◌∷◌, ◌++◌, length}
use Rattle.topology.specs.declared.frame.Frame.{Frame}
use Rattle.topology.specs.declared.frame.Ranges.{Ranges}
use Rattle.byte_lines.specs.Kept.{Kept}
use Rattle.byte_lines.specs.Lines.{half_line}
use Rattle.frame_codec.specs.Laws.{AreNarrow}
use Rattle.frame_codec.specs.Lines.{good_lines}
use Rattle.socket_links.specs.Links.{HasPulled}
use Rattle.node_core.specs.Deeds.{taken_from, sent_to}
use Rattle.link_model.specs.declared.item.Item.{Item}
use Rattle.processes.specs.Accounts.{Timed, deeds}
use Rattle.processes.specs.Links.{Act, Plays, accepts_in, gives_in, IsHistory}
use Rattle.processes.specs.Connections.{accepted_frames, given_frames, IsWithin, KeepsOrder, Ended}
use Rattle.processes.specs.Connections.{history_over, KeepOrder, as_items, line_of, lines_of}
use Rattle.processes.specs.Connections.{AreInRange, IsConnection, IsLinkOfBytes, left_over}

-- what happens on connections, each of which keeps order and loses nothing until it ends, with at
-- most `capacity` frames under way, can happen on a link of that capacity, one act after the other
abbrev pub ConnectionsPlay : Type 0
ConnectionsPlay =
    (capacity : ℕ) (way last : List Frame) (cs : List Ended) (acts : List Act)
    → KeepOrder capacity way cs acts last
    → Plays capacity (as_items way) (history_over way cs acts) (as_items last)

-- A new connection: what the sender's pipe took, and then what is not yet written, are the lines of
-- the frames that were accepted; these frames were pulled of what the receiver's pipe gave; and that
-- is a beginning of what the sender's took. Such pipes are a connection.
abbrev pub PipesAreConnections : Type 0
PipesAreConnections =
    (r : Ranges) (accepted pulled : List Frame) (took unsent gave ahead waiting : List ℕ)
    (reader : Kept) → took ++ unsent ≡ lines_of accepted
    → HasPulled r [] pulled gave reader waiting → gave ++ ahead ≡ took
    → IsConnection r [] accepted pulled

-- a connection gives a beginning of the good lines of what there was to read
abbrev pub ConnectionsGiveABeginning : Type 0
ConnectionsGiveABeginning =
    (r : Ranges) (junk : List ℕ) (accepted pulled : List Frame) → IsConnection r junk accepted pulled
    → (left : List Frame) × (good_lines r (junk ++ lines_of accepted) ≡ pulled ++ left)

-- And so it keeps order and loses nothing, if no half line stood on it at the start and at most
-- `capacity` frames are under way. At the start the frames whose lines stood on it are under way.
abbrev pub BytesKeepOrder : Type 0
BytesKeepOrder =
    (r : Ranges) (junk : List ℕ) (capacity : ℕ) (acts : List Act) → AreNarrow r
    → half_line junk ≡ [] → AreInRange r (accepted_frames acts)
    → IsConnection r junk (accepted_frames acts) (given_frames acts)
    → IsWithin capacity (length (good_lines r junk)) acts
    → (left : List Frame) × KeepsOrder capacity (good_lines r junk) acts left

-- whatever stood on it at the start spoils at most the first frame: those after it are read, if
-- they are in range
abbrev pub JunkSpoilsOneFrame : Type 0
JunkSpoilsOneFrame =
    (r : Ranges) (junk : List ℕ) (f : Frame) (fs : List Frame) → AreNarrow r → AreInRange r fs
    → good_lines r (junk ++ lines_of (f ∷ fs)) ≡ good_lines r (junk ++ line_of f) ++ fs

-- a link of bytes has a history, if what its sender sent is in range
abbrev pub BytesAreHistory : Type 0
BytesAreHistory =
    (r : Ranges) (junk : List ℕ) (capacity : ℕ) (sent taken : List Act) (cs : List Ended)
    (acts : List Act) → AreNarrow r → AreInRange r (accepted_frames sent)
    → IsLinkOfBytes r capacity junk sent taken cs acts
    → IsHistory capacity (as_items (good_lines r junk)) sent taken
    (history_over (good_lines r junk) cs acts) (as_items (left_over (good_lines r junk) cs acts))

-- the frames of a link's history are those that the accounts of its two ends speak of
abbrev pub HistoriesGiveFrames : Type 0
HistoriesGiveFrames =
    (capacity u v : ℕ) (first last : List Item) (sender receiver : List Timed) (history : List Act)
    → IsHistory capacity first (accepts_in v sender) (gives_in u receiver) history last
    → (accepted_frames history ≡ sent_to v (deeds sender))
    × (given_frames history ≡ taken_from u (deeds receiver))
