-- The lines of an events text: which event a line spells.
use Rattle.std.specs.Prelude.{ℕ, if◌then◌else◌, List, [], ◌∷◌, Option, Some, None, codes}
use Rattle.std.specs.Option.{option_and_then, option_map}
use Rattle.std.specs.Str.{bytes_eq}
use Rattle.line_words.specs.Words.{Word, words, first_word, other_words, reads, ends}
use Rattle.line_words.specs.Numbers.{number, number_or_none, yes_or_no}
use Rattle.topology.specs.declared.frame.Payload.{Payload}
use Rattle.run_model.specs.link_model.declared.item.Item.TheVariants as item
use Rattle.run_model.specs.declared.event.Event.{Event}
use Rattle.run_model.specs.declared.event.Event.TheVariants.{Send, Take, Lose, Tick, Ask, Leave, Damage}
use Rattle.run_model.specs.declared.event.Harm.{Harm}
use Rattle.run_model.specs.declared.event.Harm.TheVariants as harm

-- two numbers, and three
abbrev pub two_of : List Word → Option (ℕ × ℕ)
two_of = reads number (λ m. reads number (λ n words. Some (m, n)))

abbrev pub three_of : List Word → Option (ℕ × ℕ × ℕ)
three_of = reads number (λ k. reads number (λ m. reads number (λ n words. Some (k, m, n))))

-- a payload, D P X: a distance, a parent and a ring value
abbrev pub payload_of : List Word → Option Payload
payload_of = reads number (λ d. reads number_or_none (λ p. reads number (λ x words. Some (record { distance = d; parent = p; ring = x }))))

-- the next three words are read as a payload, and the others are read with it
abbrev pub reads_payload : {Y : Type 0} → (Payload → List Word → Option Y) → List Word → Option Y
reads_payload others words =
    option_and_then (λ payload. others payload (other_words (other_words (other_words words)))) (payload_of words)

-- the words after `send`, `take`, `lose`, `tick`, `ask` and `leave`
abbrev pub send_of : List Word → Option Event
send_of = reads number (λ u. reads number (λ v. ends (Send u v)))

abbrev pub take_of : List Word → Option Event
take_of = reads number (λ u. reads number (λ v. ends (Take u v)))

abbrev pub lose_of : List Word → Option Event
lose_of = reads number (λ u. reads number (λ v. reads number (λ i. ends (Lose u v i))))

abbrev pub tick_of : List Word → Option Event
tick_of = reads number (λ v. ends (Tick v))

abbrev pub ask_of : List Word → Option Event
ask_of = reads number (λ v. reads number (λ t. ends (Ask v t)))

abbrev pub leave_of : List Word → Option Event
leave_of = reads number (λ v. reads number (λ t. ends (Leave v t)))

-- the words after `harm own`, `harm counters`, and so on
abbrev pub own_of : List Word → Option Harm
own_of = reads number (λ v. reads number (λ d. reads number_or_none (λ p. ends (harm.Own v d p))))

abbrev pub counters_of : List Word → Option Harm
counters_of = reads number (λ v. reads number (λ w. reads number (λ seq. reads number (λ last. ends (harm.Counters v w seq last)))))

abbrev pub staged_of : List Word → Option Harm
staged_of = reads number (λ v. reads number (λ w. reads_payload (λ payload. ends (harm.Staged v w payload))))

abbrev pub copy_of : List Word → Option Harm
copy_of = reads number (λ v. reads number (λ w. reads_payload (λ payload. ends (harm.Copy v w payload))))

abbrev pub value_of : List Word → Option Harm
value_of = reads number (λ v. reads number (λ w. reads number (λ x. ends (harm.Value v w x))))

abbrev pub desk_of : List Word → Option Harm
desk_of = reads number (λ v. reads number_or_none (λ lent. reads number (λ left. reads yes_or_no (λ served. ends (harm.Desk v lent left served)))))

abbrev pub frame_of : List Word → Option Harm
frame_of =
    reads number (λ u. reads number (λ v. reads number (λ seq. reads number (λ ack. reads_payload (λ payload.
    ends (harm.Item u v (item.Frame (record { seq = seq; ack = ack; payload = payload }))))))))

abbrev pub junk_of : List Word → Option Harm
junk_of = reads number (λ u. reads number (λ v. ends (harm.Item u v item.Noise)))

abbrev pub empty_of : List Word → Option Harm
empty_of = reads number (λ u. reads number (λ v. ends (harm.Empty u v)))

abbrev pub join_of : List Word → Option Harm
join_of = reads number (λ u. reads number (λ v. ends (harm.Join u v)))

abbrev pub part_of : List Word → Option Harm
part_of = reads number (λ u. reads number (λ v. ends (harm.Part u v)))

-- what the first row whose name is this word reads from the words after it
abbrev pub by_name : {Y : Type 0} → List (Word × (List Word → Option Y)) → Word → List Word → Option Y
by_name [] word words = None
by_name (row ∷ rows) word words = if bytes_eq word row.0 then row.1 words else by_name rows word words

-- the kinds of harms, and the harm that its kind and the words after it name
abbrev pub harm_kinds : List (Word × (List Word → Option Harm))
harm_kinds =
    (codes "own", own_of) ∷ (codes "counters", counters_of) ∷ (codes "staged", staged_of) ∷ (codes "copy", copy_of)
    ∷ (codes "value", value_of) ∷ (codes "desk", desk_of) ∷ (codes "frame", frame_of) ∷ (codes "junk", junk_of)
    ∷ (codes "empty", empty_of) ∷ (codes "join", join_of) ∷ (codes "part", part_of) ∷ []

abbrev pub harm_of : Word → List Word → Option Harm
harm_of kind words = by_name harm_kinds kind words

-- the harm that the words after `harm` name
abbrev pub damage_of : List Word → Option Event
damage_of words = option_map (λ h. Damage h) (option_and_then (λ kind. harm_of kind (other_words words)) (first_word words))

-- the verbs, and the event that a verb and the words after it name
abbrev pub verbs : List (Word × (List Word → Option Event))
verbs =
    (codes "tick", tick_of) ∷ (codes "lose", lose_of) ∷ (codes "harm", damage_of) ∷ (codes "send", send_of)
    ∷ (codes "take", take_of) ∷ (codes "ask", ask_of) ∷ (codes "leave", leave_of) ∷ []

abbrev pub event_of : Word → List Word → Option Event
event_of verb words = by_name verbs verb words

-- the event that a line spells, if any
abbrev pub line_event : List ℕ → Option Event
line_event line = option_and_then (λ verb. event_of verb (other_words (words line))) (first_word (words line))
