-- What a node's ends of its links have seen in a run.
use Rattle.std.specs.Prelude.{◌≡◌, ℕ, ◌+◌, ◌-◌, ◌<◌, ◌≤◌, List, [], ◌∷◌, ◌++◌, map, drop, length, Option, Some, None}
use Rattle.std.specs.List.{AllZip}
use Rattle.rtrb.specs.Ring.{sent, received, known_free, known_items, SameProducer, SameConsumer}
use Rattle.link_model.specs.declared.item.Item.{Item}
use Rattle.weaving.specs.declared.journal.Stamped.{Stamped}
use Rattle.weaving.specs.Matched.{AreAbove, stamps}
use Rattle.node_runner.specs.declared.ports.Outgoing.{Outgoing}
use Rattle.node_runner.specs.declared.ports.Incoming.{Incoming}
use Rattle.node_runner.specs.Stamps.{IsTakeOf, given_back}

-- an item with its stamp
abbrev pub stamped : ℕ → Item → Stamped
stamped t i = record { stamp = t; item = i }

-- the items with which a link begins
abbrev pub opening : List Item → List Stamped
opening old = map (stamped 0) old

-- these sends, and one more if there was one
abbrev pub with_sent : List Stamped → Item → Option ℕ → List Stamped
with_sent sends i (Some t) = sends ++ stamped t i ∷ []
with_sent sends i None = sends

-- these takes, and one more if there was one
abbrev pub with_taken : List Stamped → Option Stamped → List Stamped
with_taken takes (Some t) = takes ++ t ∷ []
with_taken takes None = takes

-- these are ends of the same rings
abbrev pub SameOutgoing : {A : Type 0} → Outgoing A → Outgoing A → Type 0
SameOutgoing a b = SameProducer a.frames b.frames × SameConsumer a.places b.places

-- these are ends of the same rings
abbrev pub SameIncoming : {A : Type 0} → Incoming A → Incoming A → Type 0
SameIncoming a b = SameConsumer a.frames b.frames × SameProducer a.places b.places

-- The sender's end of a link that began with these items, after these sends. Each send spent a
-- place: first those that were free at the start, then those that came back, in order; such a send
-- is later than the take that freed its place.
pub record IsSender {A : Type 0} (capacity : ℕ) (old : List Item) (sends : List Stamped) (o : Outgoing A) : Type 0 where
  pub sent : sent o.frames ≡ opening old ++ sends
  pub spent : length sends + o.free ≡ (capacity - length old) + length (received o.places)
  pub first : 0 < o.free → received o.places ≡ []
  pub later : AreAbove (drop (capacity - length old) (stamps sends)) (received o.places)
  pub room : capacity - length old ≤ known_free o.frames + length sends

-- The receiver's end of a link that began with this many items, after these takes. They took what
-- came in, in order; each take is later than its item, and gave its place back unless its own stamp
-- is above 2^61.
pub record IsReceiver {A : Type 0} (capacity old : ℕ) (takes : List Stamped) (i : Incoming A) : Type 0 where
  pub taken : AllZip IsTakeOf takes (received i.frames)
  pub returned : sent i.places ≡ given_back takes
  pub here : old ≤ length takes + length (known_items i.frames)
  pub room : capacity ≤ length takes + known_free i.places
