-- A line that spells an event has the words of that event.
use Rattle.std.proofs.Common.{◌≡◌, ℕ, Bool, true, false, List, [], ◌∷◌, Option, Some, None, refl, ap, sym, ◌∙◌, arith, codes}
use Rattle.std.specs.Prelude.{if◌then◌else◌}
use Rattle.std.specs.Option.{option_and_then, option_map}
use Rattle.std.specs.Str.{bytes_eq}
use Rattle.std.specs.Fmt.{decimal}
use Rattle.std.specs.List.{join_with_byte, AllByRecursion}
use Rattle.std.proofs.lemmas.Slice.Eq.{bytes_eq-Decides}
use Rattle.topology.specs.declared.frame.Payload.{Payload}
use Rattle.run_model.specs.link_model.declared.item.Item.TheVariants as item
use Rattle.run_model.specs.declared.event.Event.{Event}
use Rattle.run_model.specs.declared.event.Event.TheVariants.{Send, Take, Lose, Tick, Ask, Leave, Damage}
use Rattle.run_model.specs.declared.event.Harm.{Harm}
use Rattle.run_model.specs.declared.event.Harm.TheVariants as harm
use Rattle.line_words.specs.Words.{Word, words, first_word, other_words, reads, ends}
use Rattle.line_words.specs.Numbers.{number, number_or_none, yes_or_no}
use Rattle.line_words.specs.Laws.{NumbersHaveOneSpelling, WordsMakeTheLine}
use Rattle.events_text.specs.EventLine.{reads_payload, payload_of, send_of, take_of, lose_of, tick_of, ask_of, leave_of, own_of, counters_of, staged_of, copy_of, value_of, desk_of, frame_of, junk_of, empty_of, join_of, part_of, line_event, by_name, verbs, event_of, damage_of, harm_kinds, harm_of}
use Rattle.events_text.specs.EventLaws.{word_or_none, yes_or_no_word, payload_words, harm_words, event_words}

-- a word that was read is the spelling of what it says, and what it is read with goes on after it
module _ {X Y : Type 0} (read : Word → Option X) (spell : X → Word) (one : (w : Word) (x : X) → read w ≡ Some x → w ≡ spell x) where
  said : (others : X → List Word → Option Y) (P : List Word → Type 0) (y : Y) → ((x : X) (rest : List Word) → others x rest ≡ Some y → P (spell x ∷ rest))
      → (w : Word) (rest : List Word) (o : Option X) → read w ≡ o → option_and_then (λ x. others x rest) o ≡ Some y → P (w ∷ rest)
  said others P y goes w rest None none e = absurd (cc)
  said others P y goes w rest (Some x) some e = rw (one w x some) (goes x rest e)

  pub step : (others : X → List Word → Option Y) (P : List Word → Type 0) (ws : List Word) (y : Y)
      → ((x : X) (rest : List Word) → others x rest ≡ Some y → P (spell x ∷ rest)) → reads read others ws ≡ Some y → P ws
  step others P [] y goes e = absurd (cc)
  step others P (w ∷ rest) y goes e = said others P y goes w rest (read w) refl e

finish : {Y : Type 0} → (P : List Word → Type 0) (ws : List Word) (y z : Y) → (y ≡ z → P []) → ends y ws ≡ Some z → P ws
finish P [] y z goes e = goes (cc)
finish P (w ∷ ws) y z goes e = absurd (cc)

module _ (spelled : NumbersHaveOneSpelling) where
  number-one : (w : Word) (n : ℕ) → number w ≡ Some n → w ≡ decimal n
  number-one w n e = (spelled w n e).1

  number-step : {Y : Type 0} → (others : ℕ → List Word → Option Y) (P : List Word → Type 0) (ws : List Word) (y : Y)
      → ((x : ℕ) (rest : List Word) → others x rest ≡ Some y → P (decimal x ∷ rest)) → reads number others ws ≡ Some y → P ws
  number-step others P ws y goes e = step number decimal number-one others P ws y goes e

  is-word : (w word : Word) → bytes_eq w word ≡ true → w ≡ word
  is-word w word e = grind (arith, bytes_eq-Decides w word)

  or_none-one : (w : Word) (o : Option ℕ) → number_or_none w ≡ Some o → w ≡ word_or_none o
  or_none-one w o e = by (bytes_eq w (codes "none")) refl (number w) refl e
    where
      by : (b : Bool) → bytes_eq w (codes "none") ≡ b → (r : Option ℕ) → number w ≡ r
          → ◌≡◌ {A = Option (Option ℕ)} (if b then Some None else option_map (λ n. Some n) r) (Some o) → w ≡ word_or_none o
      by true is r read e = let none : None ≡ o = cc in rw (← none) (is-word w (codes "none") is)
      by false is None read e = absurd (cc)
      by false is (Some n) read e = let some : ◌≡◌ {A = Option ℕ} (Some n) o = cc in rw (← some) (number-one w n read)

  or_none-step : {Y : Type 0} → (others : Option ℕ → List Word → Option Y) (P : List Word → Type 0) (ws : List Word) (y : Y)
      → ((x : Option ℕ) (rest : List Word) → others x rest ≡ Some y → P (word_or_none x ∷ rest)) → reads number_or_none others ws ≡ Some y → P ws
  or_none-step others P ws y goes e = step number_or_none word_or_none or_none-one others P ws y goes e

  yes_or_no-one : (w : Word) (b : Bool) → yes_or_no w ≡ Some b → w ≡ yes_or_no_word b
  yes_or_no-one w b e = by (bytes_eq w (codes "yes")) refl (bytes_eq w (codes "no")) refl e
    where
      by : (y : Bool) → bytes_eq w (codes "yes") ≡ y → (n : Bool) → bytes_eq w (codes "no") ≡ n
          → ◌≡◌ {A = Option Bool} (if y then Some true else if n then Some false else None) (Some b) → w ≡ yes_or_no_word b
      by true is n no_is e = let same : true ≡ b = cc in rw (← same) (is-word w (codes "yes") is)
      by false is true no_is e = let same : false ≡ b = cc in rw (← same) (is-word w (codes "no") no_is)
      by false is false no_is e = absurd (cc)

  yes_or_no-step : {Y : Type 0} → (others : Bool → List Word → Option Y) (P : List Word → Type 0) (ws : List Word) (y : Y)
      → ((x : Bool) (rest : List Word) → others x rest ≡ Some y → P (yes_or_no_word x ∷ rest)) → reads yes_or_no others ws ≡ Some y → P ws
  yes_or_no-step others P ws y goes e = step yes_or_no yes_or_no_word yes_or_no-one others P ws y goes e

  -- two numbers and no more, and three
  two : {Y : Type 0} → (f : ℕ → ℕ → Y) (P : List Word → Type 0) (ws : List Word) (y : Y) → ((u v : ℕ) → f u v ≡ y → P (decimal u ∷ decimal v ∷ []))
      → reads number (λ u. reads number (λ v. ends (f u v))) ws ≡ Some y → P ws
  two f P ws y goes =
      number-step (λ u. reads number (λ v. ends (f u v))) P ws y (λ u rest. number-step (λ v. ends (f u v)) (λ ws. P (decimal u ∷ ws)) rest y (λ v rest.
      finish (λ ws. P (decimal u ∷ decimal v ∷ ws)) rest (f u v) y (goes u v)))

  three : {Y : Type 0} → (f : ℕ → ℕ → ℕ → Y) (P : List Word → Type 0) (ws : List Word) (y : Y)
      → ((u v x : ℕ) → f u v x ≡ y → P (decimal u ∷ decimal v ∷ decimal x ∷ []))
      → reads number (λ u. reads number (λ v. reads number (λ x. ends (f u v x)))) ws ≡ Some y → P ws
  three f P ws y goes = number-step (λ u. reads number (λ v. reads number (λ x. ends (f u v x)))) P ws y
      (λ u rest. two (f u) (λ ws. P (decimal u ∷ ws)) rest y (goes u))

  -- a payload and no more
  abbrev HasPayload : Payload → List Word → Type 0
  HasPayload payload ws = ws ≡ decimal payload.distance ∷ word_or_none payload.parent ∷ decimal payload.ring ∷ other_words (other_words (other_words ws))

  payload-parts : (ws : List Word) (payload : Payload) → payload_of ws ≡ Some payload
      → HasPayload payload ws
  payload-parts ws payload = number-step (λ d. reads number_or_none (λ p. reads number (λ x words. Some (record { distance = d; parent = p; ring = x })))) (HasPayload payload) ws payload
      (λ d rest. or_none-step (λ p. reads number (λ x words. Some (record { distance = d; parent = p; ring = x }))) (λ ws. HasPayload payload (decimal d ∷ ws)) rest payload
      (λ p rest. number-step (λ x words. Some (record { distance = d; parent = p; ring = x })) (λ ws. HasPayload payload (decimal d ∷ word_or_none p ∷ ws)) rest payload
      (λ x rest e. let same : ◌≡◌ {A = Payload} (record { distance = d; parent = p; ring = x }) payload = cc in rw (← same) refl)))

  had-ended : {Y : Type 0} → (y z : Y) (ws : List Word) → ends y ws ≡ Some z → (ws ≡ []) × (y ≡ z)
  had-ended y z [] e = (refl, cc)
  had-ended y z (w ∷ ws) e = absurd (cc)

  payload-said : {Y : Type 0} → (f : Payload → Y) (P : List Word → Type 0) (ws : List Word) (y : Y) → ((payload : Payload) → f payload ≡ y → P (payload_words payload))
      → (o : Option Payload) → payload_of ws ≡ o
      → option_and_then (λ payload. ends (f payload) (other_words (other_words (other_words ws)))) o ≡ Some y → P ws
  payload-said f P ws y goes None none e = absurd (cc)
  payload-said f P ws y goes (Some payload) some e =
      let (none, same) = had-ended (f payload) y (other_words (other_words (other_words ws))) e in
      rw (payload-parts ws payload some, none) (goes payload same)

  payload-then : {Y : Type 0} → (f : Payload → Y) (P : List Word → Type 0) (ws : List Word) (y : Y)
      → ((payload : Payload) → f payload ≡ y → P (payload_words payload)) → reads_payload (λ payload. ends (f payload)) ws ≡ Some y → P ws
  payload-then f P ws y goes e = payload-said f P ws y goes (payload_of ws) refl e

  tick-words : (ws : List Word) (e : Event) → tick_of ws ≡ Some e → codes "tick" ∷ ws ≡ event_words e
  tick-words ws e = number-step (λ v. ends (Tick v)) (λ ws. codes "tick" ∷ ws ≡ event_words e) ws e
      (λ v rest. finish (λ ws. codes "tick" ∷ decimal v ∷ ws ≡ event_words e) rest (Tick v) e (λ same. rw (← same) refl))

  send-words : (ws : List Word) (e : Event) → send_of ws ≡ Some e → codes "send" ∷ ws ≡ event_words e
  send-words ws e = two Send (λ ws. codes "send" ∷ ws ≡ event_words e) ws e (λ u v same. rw (← same) refl)

  take-words : (ws : List Word) (e : Event) → take_of ws ≡ Some e → codes "take" ∷ ws ≡ event_words e
  take-words ws e = two Take (λ ws. codes "take" ∷ ws ≡ event_words e) ws e (λ u v same. rw (← same) refl)

  lose-words : (ws : List Word) (e : Event) → lose_of ws ≡ Some e → codes "lose" ∷ ws ≡ event_words e
  lose-words ws e = three Lose (λ ws. codes "lose" ∷ ws ≡ event_words e) ws e (λ u v i same. rw (← same) refl)

  ask-words : (ws : List Word) (e : Event) → ask_of ws ≡ Some e → codes "ask" ∷ ws ≡ event_words e
  ask-words ws e = two Ask (λ ws. codes "ask" ∷ ws ≡ event_words e) ws e (λ v t same. rw (← same) refl)

  leave-words : (ws : List Word) (e : Event) → leave_of ws ≡ Some e → codes "leave" ∷ ws ≡ event_words e
  leave-words ws e = two Leave (λ ws. codes "leave" ∷ ws ≡ event_words e) ws e (λ v t same. rw (← same) refl)

  value-words : (ws : List Word) (h : Harm) → value_of ws ≡ Some h → codes "value" ∷ ws ≡ harm_words h
  value-words ws h = three harm.Value (λ ws. codes "value" ∷ ws ≡ harm_words h) ws h (λ v w x same. rw (← same) refl)

  junk-words : (ws : List Word) (h : Harm) → junk_of ws ≡ Some h → codes "junk" ∷ ws ≡ harm_words h
  junk-words ws h = two (λ u v. harm.Item u v item.Noise) (λ ws. codes "junk" ∷ ws ≡ harm_words h) ws h (λ u v same. rw (← same) refl)

  empty-words : (ws : List Word) (h : Harm) → empty_of ws ≡ Some h → codes "empty" ∷ ws ≡ harm_words h
  empty-words ws h = two harm.Empty (λ ws. codes "empty" ∷ ws ≡ harm_words h) ws h (λ u v same. rw (← same) refl)

  join-words_of : (ws : List Word) (h : Harm) → join_of ws ≡ Some h → codes "join" ∷ ws ≡ harm_words h
  join-words_of ws h = two harm.Join (λ ws. codes "join" ∷ ws ≡ harm_words h) ws h (λ u v same. rw (← same) refl)

  part-words : (ws : List Word) (h : Harm) → part_of ws ≡ Some h → codes "part" ∷ ws ≡ harm_words h
  part-words ws h = two harm.Part (λ ws. codes "part" ∷ ws ≡ harm_words h) ws h (λ u v same. rw (← same) refl)

  own-words : (ws : List Word) (h : Harm) → own_of ws ≡ Some h → codes "own" ∷ ws ≡ harm_words h
  own-words ws h = number-step (λ v. reads number (λ d. reads number_or_none (λ p. ends (harm.Own v d p)))) (λ ws. codes "own" ∷ ws ≡ harm_words h) ws h
      (λ v rest. number-step (λ d. reads number_or_none (λ p. ends (harm.Own v d p))) (λ ws. codes "own" ∷ decimal v ∷ ws ≡ harm_words h) rest h
      (λ d rest. or_none-step (λ p. ends (harm.Own v d p)) (λ ws. codes "own" ∷ decimal v ∷ decimal d ∷ ws ≡ harm_words h) rest h
      (λ p rest. finish (λ ws. codes "own" ∷ decimal v ∷ decimal d ∷ word_or_none p ∷ ws ≡ harm_words h) rest (harm.Own v d p) h (λ same. rw (← same) refl))))

  counters-words : (ws : List Word) (h : Harm) → counters_of ws ≡ Some h → codes "counters" ∷ ws ≡ harm_words h
  counters-words ws h = number-step (λ v. reads number (λ w. reads number (λ seq. reads number (λ last. ends (harm.Counters v w seq last))))) (λ ws. codes "counters" ∷ ws ≡ harm_words h) ws h
      (λ v rest. three (harm.Counters v) (λ ws. codes "counters" ∷ decimal v ∷ ws ≡ harm_words h) rest h (λ w seq last same. rw (← same) refl))

  -- a node, a neighbour and a payload
  payload-words : (f : ℕ → ℕ → Payload → Harm) (P : List Word → Type 0) (ws : List Word) (h : Harm)
      → ((v w : ℕ) (payload : Payload) → f v w payload ≡ h → P (decimal v ∷ decimal w ∷ payload_words payload))
      → reads number (λ v. reads number (λ w. reads_payload (λ payload. ends (f v w payload)))) ws ≡ Some h → P ws
  payload-words f P ws h goes = number-step (λ v. reads number (λ w. reads_payload (λ payload. ends (f v w payload)))) P ws h
      (λ v rest. number-step (λ w. reads_payload (λ payload. ends (f v w payload))) (λ ws. P (decimal v ∷ ws)) rest h
      (λ w rest. payload-then (f v w) (λ ws. P (decimal v ∷ decimal w ∷ ws)) rest h (goes v w)))

  staged-words : (ws : List Word) (h : Harm) → staged_of ws ≡ Some h → codes "staged" ∷ ws ≡ harm_words h
  staged-words ws h = payload-words harm.Staged (λ ws. codes "staged" ∷ ws ≡ harm_words h) ws h (λ v w payload same. rw (← same) refl)

  copy-words : (ws : List Word) (h : Harm) → copy_of ws ≡ Some h → codes "copy" ∷ ws ≡ harm_words h
  copy-words ws h = payload-words harm.Copy (λ ws. codes "copy" ∷ ws ≡ harm_words h) ws h (λ v w payload same. rw (← same) refl)

  frame-words : (ws : List Word) (h : Harm) → frame_of ws ≡ Some h → codes "frame" ∷ ws ≡ harm_words h
  frame-words ws h =
      let f : ℕ → ℕ → ℕ → ℕ → Payload → Harm = λ u v seq ack payload. harm.Item u v (item.Frame (record { seq = seq; ack = ack; payload = payload })) in
      number-step (λ u. reads number (λ v. reads number (λ seq. reads number (λ ack. reads_payload (λ payload. ends (f u v seq ack payload))))))
      (λ ws. codes "frame" ∷ ws ≡ harm_words h) ws h
      (λ u rest. number-step (λ v. reads number (λ seq. reads number (λ ack. reads_payload (λ payload. ends (f u v seq ack payload)))))
      (λ ws. codes "frame" ∷ decimal u ∷ ws ≡ harm_words h) rest h
      (λ v rest. payload-words (f u v) (λ ws. codes "frame" ∷ decimal u ∷ decimal v ∷ ws ≡ harm_words h) rest h
      (λ seq ack payload same. rw (← same) refl)))

  desk-words : (ws : List Word) (h : Harm) → desk_of ws ≡ Some h → codes "desk" ∷ ws ≡ harm_words h
  desk-words ws h = number-step (λ v. reads number_or_none (λ lent. reads number (λ left. reads yes_or_no (λ served. ends (harm.Desk v lent left served))))) (λ ws. codes "desk" ∷ ws ≡ harm_words h) ws h
      (λ v rest. or_none-step (λ lent. reads number (λ left. reads yes_or_no (λ served. ends (harm.Desk v lent left served)))) (λ ws. codes "desk" ∷ decimal v ∷ ws ≡ harm_words h) rest h
      (λ lent rest. number-step (λ left. reads yes_or_no (λ served. ends (harm.Desk v lent left served))) (λ ws. codes "desk" ∷ decimal v ∷ word_or_none lent ∷ ws ≡ harm_words h) rest h
      (λ left rest. yes_or_no-step (λ served. ends (harm.Desk v lent left served)) (λ ws. codes "desk" ∷ decimal v ∷ word_or_none lent ∷ decimal left ∷ ws ≡ harm_words h) rest h
      (λ served rest. finish (λ ws. codes "desk" ∷ decimal v ∷ word_or_none lent ∷ decimal left ∷ yes_or_no_word served ∷ ws ≡ harm_words h) rest (harm.Desk v lent left served) h
      (λ same. rw (← same) refl)))))

  -- the first word says which kind it is
  choose : {Y : Type 0} → (b : Bool) (yes_so no_so : Option Y) (y : Y) (Q : Type 0) → (b ≡ true → yes_so ≡ Some y → Q) → (no_so ≡ Some y → Q)
      → (if b then yes_so else no_so) ≡ Some y → Q
  choose true yes_so no_so y Q first second e = first refl e
  choose false yes_so no_so y Q first second e = second e

  kind : {Y : Type 0} → (verb word : Word) (ws goal_words : List Word) (parse : List Word → Option Y) (others : Option Y) (y : Y)
      → (parse ws ≡ Some y → word ∷ ws ≡ goal_words) → (others ≡ Some y → verb ∷ ws ≡ goal_words)
      → (if bytes_eq verb word then parse ws else others) ≡ Some y → verb ∷ ws ≡ goal_words
  kind verb word ws goal_words parse others y this other =
      choose (bytes_eq verb word) (parse ws) others y (verb ∷ ws ≡ goal_words) (λ is e. ap (λ w. w ∷ ws) (is-word verb word is) ∙ this e) other

  -- so it is, if each name and what it reads are words of the goal
  by-name : {Y : Type 0} → (rows : List (Word × (List Word → Option Y))) (word : Word) (ws goal_words : List Word) (y : Y)
      → AllByRecursion (λ row. row.1 ws ≡ Some y → row.0 ∷ ws ≡ goal_words) rows
      → by_name rows word ws ≡ Some y → word ∷ ws ≡ goal_words
  by-name [] word ws goal_words y all e = absurd (cc)
  by-name (row ∷ rows) word ws goal_words y all e =
      kind word row.0 ws goal_words row.1 (by_name rows word ws) y all.0 (by-name rows word ws goal_words y all.1) e

  harm-words : (part : Word) (ws : List Word) (h : Harm) → harm_of part ws ≡ Some h → part ∷ ws ≡ harm_words h
  harm-words part ws h = by-name harm_kinds part ws (harm_words h) h (
    own-words ws h,
    (
      counters-words ws h,
      (
        staged-words ws h,
        (
          copy-words ws h,
          (
            value-words ws h,
            (
              desk-words ws h,
              (frame-words ws h, (junk-words ws h, (empty-words ws h, (join-words_of ws h, (part-words ws h, tt))))),
            ),
          ),
        ),
      ),
    ),
  )

  damage-words : (ws : List Word) (e : Event) → damage_of ws ≡ Some e → codes "harm" ∷ ws ≡ event_words e
  damage-words [] e h = absurd (cc)
  damage-words (part ∷ ws) e h = by (harm_of part ws) refl h
    where
      by : (o : Option Harm) → harm_of part ws ≡ o → ◌≡◌ {A = Option Event} (option_map (λ harm. Damage harm) o) (Some e)
          → codes "harm" ∷ part ∷ ws ≡ event_words e
      by None none e_is = absurd (cc)
      by (Some harm) some e_is =
          let same : Damage harm ≡ e = cc in rw (← same) (ap (λ words. codes "harm" ∷ words) (harm-words part ws harm some))

  event-words : (verb : Word) (ws : List Word) (e : Event) → event_of verb ws ≡ Some e → verb ∷ ws ≡ event_words e
  event-words verb ws e = by-name verbs verb ws (event_words e) e (
    tick-words ws e,
    (
      lose-words ws e,
      (
        damage-words ws e,
        (
          send-words ws e,
          (
            take-words ws e,
            (
              ask-words ws e,
              (leave-words ws e, tt),
            ),
          ),
        ),
      ),
    ),
  )

  -- the words of a line that spells an event are those of the event
  words-of : (ws : List Word) (e : Event) → option_and_then (λ verb. event_of verb (other_words ws)) (first_word ws) ≡ Some e → ws ≡ event_words e
  words-of [] e h = absurd (cc)
  words-of (verb ∷ ws) e h = event-words verb ws e h

  pub events-spelled : WordsMakeTheLine → (line : Word) (e : Event) → line_event line ≡ Some e
      → line ≡ join_with_byte 32 (event_words e)
  events-spelled joined line e h = sym (joined line) ∙ ap (join_with_byte 32) (words-of (words line) e h)
