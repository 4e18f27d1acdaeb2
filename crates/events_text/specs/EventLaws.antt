-- Laws of the events text: each event has one spelling.
use Rattle.std.specs.Prelude.{◌≡◌, ℕ, Bool, true, false, ◌&&◌, nat_lt, List, [], ◌∷◌, Option, Some, None, codes}
use Rattle.std.specs.Fmt.{decimal}
use Rattle.std.specs.List.{join_with_byte}
use Rattle.topology.specs.declared.frame.Payload.{Payload}
use Rattle.run_model.specs.link_model.declared.item.Item.TheVariants as item
use Rattle.run_model.specs.declared.event.Event.{Event}
use Rattle.run_model.specs.declared.event.Event.TheVariants.{Send, Take, Lose, Tick, Ask, Leave, Damage}
use Rattle.run_model.specs.declared.event.Harm.{Harm}
use Rattle.run_model.specs.declared.event.Harm.TheVariants as harm
use Rattle.line_words.specs.Words.{Word}
use Rattle.events_text.specs.EventLine.{line_event}

-- the words for a number or none, for yes or no, and for a payload
abbrev pub word_or_none : Option ℕ → Word
word_or_none None = codes "none"
word_or_none (Some n) = decimal n

abbrev pub yes_or_no_word : Bool → Word
yes_or_no_word true = codes "yes"
yes_or_no_word false = codes "no"

abbrev pub payload_words : Payload → List Word
payload_words p = decimal p.distance ∷ word_or_none p.parent ∷ decimal p.ring ∷ []

-- the words of a harm, after `harm`
abbrev pub harm_words : Harm → List Word
harm_words (harm.Own v d p) = codes "own" ∷ decimal v ∷ decimal d ∷ word_or_none p ∷ []
harm_words (harm.Counters v w seq last) = codes "counters" ∷ decimal v ∷ decimal w ∷ decimal seq ∷ decimal last ∷ []
harm_words (harm.Staged v w payload) = codes "staged" ∷ decimal v ∷ decimal w ∷ payload_words payload
harm_words (harm.Copy v w payload) = codes "copy" ∷ decimal v ∷ decimal w ∷ payload_words payload
harm_words (harm.Value v w x) = codes "value" ∷ decimal v ∷ decimal w ∷ decimal x ∷ []
harm_words (harm.Desk v lent left served) = codes "desk" ∷ decimal v ∷ word_or_none lent ∷ decimal left ∷ yes_or_no_word served ∷ []
harm_words (harm.Item u v (item.Frame f)) =
    codes "frame" ∷ decimal u ∷ decimal v ∷ decimal f.seq ∷ decimal f.ack ∷ payload_words f.payload
harm_words (harm.Item u v item.Noise) = codes "junk" ∷ decimal u ∷ decimal v ∷ []
harm_words (harm.Empty u v) = codes "empty" ∷ decimal u ∷ decimal v ∷ []
harm_words (harm.Join u v) = codes "join" ∷ decimal u ∷ decimal v ∷ []
harm_words (harm.Part u v) = codes "part" ∷ decimal u ∷ decimal v ∷ []

-- the words of an event
abbrev pub event_words : Event → List Word
event_words (Send u v) = codes "send" ∷ decimal u ∷ decimal v ∷ []
event_words (Take u v) = codes "take" ∷ decimal u ∷ decimal v ∷ []
event_words (Lose u v i) = codes "lose" ∷ decimal u ∷ decimal v ∷ decimal i ∷ []
event_words (Tick v) = codes "tick" ∷ decimal v ∷ []
event_words (Ask v t) = codes "ask" ∷ decimal v ∷ decimal t ∷ []
event_words (Leave v t) = codes "leave" ∷ decimal v ∷ decimal t ∷ []
event_words (Damage h) = codes "harm" ∷ harm_words h

-- a line spells an event only if its words are those of the event, with a space between each two
abbrev pub EventsHaveOneSpelling : Type 0
EventsHaveOneSpelling = (line : Word) (event : Event) → line_event line ≡ Some event → line ≡ join_with_byte 32 (event_words event)

-- each number of a payload, a harm or an event is below 65536
abbrev pub is_small : ℕ → Bool
is_small n = nat_lt n 65536

abbrev pub is_small_or_none : Option ℕ → Bool
is_small_or_none None = true
is_small_or_none (Some n) = is_small n

abbrev pub payload_is_small : Payload → Bool
payload_is_small p = is_small p.distance && is_small_or_none p.parent && is_small p.ring

abbrev pub harm_is_small : Harm → Bool
harm_is_small (harm.Own v d p) = is_small v && is_small d && is_small_or_none p
harm_is_small (harm.Counters v w seq last) = is_small v && is_small w && is_small seq && is_small last
harm_is_small (harm.Staged v w payload) = is_small v && is_small w && payload_is_small payload
harm_is_small (harm.Copy v w payload) = is_small v && is_small w && payload_is_small payload
harm_is_small (harm.Value v w x) = is_small v && is_small w && is_small x
harm_is_small (harm.Desk v lent left served) = is_small v && is_small_or_none lent && is_small left
harm_is_small (harm.Item u v (item.Frame f)) = is_small u && is_small v && is_small f.seq && is_small f.ack && payload_is_small f.payload
harm_is_small (harm.Item u v item.Noise) = is_small u && is_small v
harm_is_small (harm.Empty u v) = is_small u && is_small v
harm_is_small (harm.Join u v) = is_small u && is_small v
harm_is_small (harm.Part u v) = is_small u && is_small v

abbrev pub event_is_small : Event → Bool
event_is_small (Send u v) = is_small u && is_small v
event_is_small (Take u v) = is_small u && is_small v
event_is_small (Lose u v i) = is_small u && is_small v && is_small i
event_is_small (Tick v) = is_small v
event_is_small (Ask v t) = is_small v && is_small t
event_is_small (Leave v t) = is_small v && is_small t
event_is_small (Damage h) = harm_is_small h

-- and each such event is read from its words, with a space between each two
abbrev pub EventsAreRead : Type 0
EventsAreRead = (event : Event) → event_is_small event ≡ true → line_event (join_with_byte 32 (event_words event)) ≡ Some event
