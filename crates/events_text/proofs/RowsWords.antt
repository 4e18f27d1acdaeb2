-- Small examples of the words after a verb or a kind of harm: what each reader reads from them, and what it refuses.
use Rattle.std.proofs.Common.{◌≡◌, ℕ, true, false, List, [], ◌∷◌, ◌++◌, map, replicate, Option, Some, None, refl, codes}
use Rattle.line_words.specs.Words.{Word, words, ends}
use Rattle.topology.specs.declared.frame.Payload.{Payload}
use Rattle.run_model.specs.link_model.declared.item.Item.TheVariants as item
use Rattle.run_model.specs.declared.event.Event.TheVariants.{Send, Take, Lose, Tick, Ask, Damage}
use Rattle.run_model.specs.declared.event.Harm.TheVariants as harm
use Rattle.events_text.specs.declared.text_line.TextLine.TheVariants.{Passed, Unread, Said}
use Rattle.events_text.specs.EventLine.{payload_of, reads_payload, send_of, take_of, lose_of, ask_of}
use Rattle.events_text.specs.EventLine.{own_of, counters_of, staged_of, copy_of, desk_of, junk_of, empty_of, join_of}
use Rattle.events_text.specs.EventLine.{by_name, harm_kinds, harm_of, damage_of, verbs, line_event}
use Rattle.events_text.specs.EventsText.{ended_lines}

-- what a reader says of the words of each text
abbrev said_of : {Y : Type 0} → (List Word → Option Y) → List (List ℕ) → List (Option Y)
said_of reader texts = map (λ text. reader (words text)) texts

-- a payload with a parent, and one without
abbrev three_two_one : Payload
three_two_one = record { distance = 3; parent = Some 2; ring = 1 }

abbrev three_none_one : Payload
three_none_one = record { distance = 3; parent = None; ring = 1 }

-- ---- payloads

-- a payload is a distance, a parent and a ring value; the parent may be `none`, and a fourth word is left unread
payload-three : said_of payload_of (codes "3 2 1" ∷ codes "3 none 1" ∷ codes "3 2 1 no" ∷ [])
    ≡ Some three_two_one ∷ Some three_none_one ∷ Some three_two_one ∷ []
payload-three = refl

-- `none` is no distance and no ring value, `no` is no parent, and two words are too few
payload-not : said_of payload_of (codes "none 2 1" ∷ codes "3 2 none" ∷ codes "3 no 1" ∷ codes "3 2" ∷ [])
    ≡ replicate 4 None
payload-not = refl

-- the words after the payload's three are read with it
payload-then : reads_payload {Y = Payload × List Word} (λ payload others. Some (payload, others)) (words (codes "3 2 1 6 no"))
    ≡ Some (three_two_one, codes "6" ∷ codes "no" ∷ [])
payload-then = refl

-- nothing is read after words that are no payload
payload-first : reads_payload (λ payload others. Some others) (words (codes "3 no 1 6")) ≡ None
payload-first = refl

-- a payload is not enough if the others are refused
payload-others : reads_payload (λ payload. ends payload) (words (codes "3 2 1 6")) ≡ None
payload-others = refl

-- ---- the words after a verb

-- a send is from the first node to the second; one word is too few, three are too many, and a node has a number
send-words : said_of send_of (codes "3 1" ∷ codes "3" ∷ codes "3 1 0" ∷ codes "none 1" ∷ [])
    ≡ Some (Send 3 1) ∷ None ∷ None ∷ None ∷ []
send-words = refl

-- item 0 may be lost; two words are too few, four are too many, and an item has a number
lose-words : said_of lose_of (codes "3 1 0" ∷ codes "3 1" ∷ codes "3 1 0 0" ∷ codes "3 1 none" ∷ [])
    ≡ Some (Lose 3 1 0) ∷ None ∷ None ∷ None ∷ []
lose-words = refl

-- a ticket is below 65536; one word is too few, and three are too many
ask-words : said_of ask_of (codes "1 65535" ∷ codes "1 65536" ∷ codes "1" ∷ codes "1 5 0" ∷ [])
    ≡ Some (Ask 1 65535) ∷ None ∷ None ∷ None ∷ []
ask-words = refl

-- ---- the words after a kind of harm

-- only the parent of a node may be `none`; two words are too few, four are too many
own-words : said_of own_of (codes "3 2 1" ∷ codes "3 none 1" ∷ codes "3 2 no" ∷ codes "3 2" ∷ codes "3 2 1 0" ∷ [])
    ≡ Some (harm.Own 3 2 (Some 1)) ∷ None ∷ None ∷ None ∷ None ∷ []
own-words = refl

-- four numbers are a port's counters; a counter is not `none`, three words are too few, and five are too many
counters-words : said_of counters_of (codes "5 4 3 2" ∷ codes "5 4 none 2" ∷ codes "5 4 3" ∷ codes "5 4 3 2 1" ∷ [])
    ≡ Some (harm.Counters 5 4 3 2) ∷ None ∷ None ∷ None ∷ []
counters-words = refl

-- a node, a neighbour and a payload are a staged payload; four words are too few, and six are too many
staged-words : said_of staged_of (codes "5 4 3 2 1" ∷ codes "5 4 3 2" ∷ codes "5 4 3 2 1 0" ∷ [])
    ≡ Some (harm.Staged 5 4 three_two_one) ∷ None ∷ None ∷ []
staged-words = refl

-- the same words are a copied payload, whose parent may be `none`; its distance may not
copy-words : said_of copy_of (codes "5 4 3 none 1" ∷ codes "5 4 none 2 1" ∷ codes "5 4 3 2" ∷ codes "5 4 3 2 1 0" ∷ [])
    ≡ Some (harm.Copy 5 4 three_none_one) ∷ None ∷ None ∷ None ∷ []
copy-words = refl

-- a desk lends a ticket or `none`, has ticks left, and served or did not
desk-words : said_of desk_of (codes "3 2 1 yes" ∷ codes "3 none 0 no" ∷ [])
    ≡ Some (harm.Desk 3 (Some 2) 1 true) ∷ Some (harm.Desk 3 None 0 false) ∷ []
desk-words = refl

-- `no` is no ticket, `none` is no number of ticks, `1` is no answer; three words are too few, five are too many
desk-not : said_of desk_of (codes "3 no 1 yes" ∷ codes "3 2 none yes" ∷ codes "3 2 1 1" ∷ codes "3 2 1" ∷ codes "3 2 1 yes no" ∷ [])
    ≡ replicate 5 None
desk-not = refl

-- noise gets onto the link from the first node to the second; one word is too few, and three are too many
junk-words : said_of junk_of (codes "3 1" ∷ codes "3" ∷ codes "3 1 0" ∷ [])
    ≡ Some (harm.Item 3 1 item.Noise) ∷ None ∷ None ∷ []
junk-words = refl

-- the link from the first node to the second gets empty; the same numbers of words are refused
empty-words : said_of empty_of (codes "3 1" ∷ codes "3" ∷ codes "3 1 0" ∷ []) ≡ Some (harm.Empty 3 1) ∷ None ∷ None ∷ []
empty-words = refl

-- an edge joins the first node to the second; the same numbers of words are refused
join-words : said_of join_of (codes "3 1" ∷ codes "3" ∷ codes "3 1 0" ∷ []) ≡ Some (harm.Join 3 1) ∷ None ∷ None ∷ []
join-words = refl

-- ---- names

-- of two rows with one name the first reads; a row with another name in front does not
name-first : by_name ((codes "ask", ask_of) ∷ (codes "send", send_of) ∷ (codes "send", take_of) ∷ []) (codes "send") (words (codes "3 1"))
    ≡ Some (Send 3 1)
name-first = refl

-- what the first row with the name refuses, no row after it reads
name-no_other : by_name ((codes "lose", lose_of) ∷ (codes "lose", send_of) ∷ []) (codes "lose") (words (codes "3 1"))
    ≡ None
name-no_other = refl

-- nothing is read by a name that no row has
name-none : by_name ((codes "send", send_of) ∷ []) (codes "sen") (words (codes "3 1")) ≡ None
name-none = refl

-- nor if there are no rows
name-no_rows : by_name {Y = Payload} [] (codes "send") (words (codes "3 1")) ≡ None
name-no_rows = refl

-- the same two words after two verbs are two events
verb-two : map (λ verb. by_name verbs verb (words (codes "3 1"))) (codes "take" ∷ codes "send" ∷ [])
    ≡ Some (Take 3 1) ∷ Some (Send 3 1) ∷ []
verb-two = refl

-- a part of a verb, a longer word, another case, a kind of harm and the empty word are no verbs
verb-none : map (λ verb. by_name verbs verb (words (codes "3 1"))) (codes "sen" ∷ codes "sends" ∷ codes "Send" ∷ codes "join" ∷ [] ∷ [])
    ≡ replicate 5 None
verb-none = refl

-- the same three words after two kinds are two harms
kind-two : map (λ kind. harm_of kind (words (codes "3 2 1"))) (codes "own" ∷ codes "value" ∷ [])
    ≡ Some (harm.Own 3 2 (Some 1)) ∷ Some (harm.Value 3 2 1) ∷ []
kind-two = refl

-- another case, a verb and the empty word are no kinds of harm
kind-none : map (λ kind. harm_of kind (words (codes "3 1"))) (codes "Junk" ∷ codes "send" ∷ [] ∷ []) ≡ replicate 3 None
kind-none = refl

-- the same five words after two kinds are two harms, and another kind reads no payload
kind-payload : map (λ kind. by_name harm_kinds kind (words (codes "5 4 3 2 1"))) (codes "copy" ∷ codes "staged" ∷ codes "value" ∷ [])
    ≡ Some (harm.Copy 5 4 three_two_one) ∷ Some (harm.Staged 5 4 three_two_one) ∷ None ∷ []
kind-payload = refl

-- the words after `harm` are a kind and its words; a verb is no kind, and a word too many is refused
damage-words : said_of damage_of (codes "join 0 3" ∷ codes "send 0 3" ∷ codes "join 0 3 1" ∷ [])
    ≡ Some (Damage (harm.Join 0 3)) ∷ None ∷ None ∷ []
damage-words = refl

-- `harm` alone is no damage
damage-none : damage_of [] ≡ None
damage-none = refl

-- ---- lines

-- `harm` needs a kind, a kind needs `harm`, `harm` and a verb are no kinds, and an empty line spells no event
unread-kinds : map line_event (codes "harm 0 3 1" ∷ codes "own 0 3 1" ∷ codes "harm harm own 0 3 1" ∷ codes "harm tick 0" ∷ [] ∷ [])
    ≡ replicate 5 None
unread-kinds = refl

-- a line with a word too many spells no event
unread-long : map line_event
    (codes "take 10 1 0" ∷ codes "leave 0 4 1" ∷ codes "harm value 0 1 6 0" ∷ codes "harm frame 0 1 4 3 2 none 6 0" ∷ [])
    ≡ replicate 4 None
unread-long = refl

-- nor does a line with a word too few
unread-short : map line_event
    (codes "take 10" ∷ codes "leave 0" ∷ codes "harm value 0 1" ∷ codes "harm frame 0 1 4 3 2 6" ∷ codes "tick" ∷ [])
    ≡ replicate 5 None
unread-short = refl

-- the lines that a newline ended, and not what stands after the last newline
ended-first : ended_lines (codes "tick 0" ++ 10 ∷ 10 ∷ codes "x" ++ 10 ∷ codes "tick 1")
    ≡ Said (Tick 0) ∷ Passed ∷ Unread ∷ []
ended-first = refl

-- no line has ended before the first newline
ended-none : ended_lines (codes "tick 0") ≡ []
ended-none = refl
