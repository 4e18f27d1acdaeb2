-- A node's account as events: its ticks, and its first turn.
use Rattle.std.proofs.Common.{◌≡◌, ℕ, zero, suc, ◌+◌, ◌<◌, ◌≤◌, min, Bool, if◌then◌else◌, IsTrue, List, [], ◌∷◌, ◌++◌, filter, length, All, ap, refl, sym, subst, ◌∙◌, arith, inl, inr, length-append}
use Rattle.std.proofs.lemmas.Grind.{common_steps}
use Rattle.std.proofs.lemmas.List.Elements.{filter-append}
use Rattle.topology.specs.Network.{neighbours_of}
use Rattle.run_model.specs.World.{World}
use Rattle.run_model.specs.Step.{has_room}
use Rattle.run_model.specs.declared.event.Event.{Event}
use Rattle.run_model.specs.declared.event.Event.TheVariants.{Send, Take, Tick}
use Rattle.weaving.specs.Account.{Note, Ticked, Sent, Took, entry_of, sent_to, taken_from}
use Rattle.node_runner.specs.Runner.{IsOneSend, IsOneTake}
use Rattle.node_runner.specs.Rounds.{AreSendsTo, AreTakesFrom, IsRound, AreRounds}
use Rattle.node_runner.specs.FirstTurn.{IsFirstTurn, before_tick, count_of, is_send_on, is_take_on, is_tick, is_tick_of}
use Rattle.node_runner.specs.Due.{events_of}
use Rattle.node_runner.proofs.Accounts.{sent-on, taken-on}

pub events-on : (v : ℕ) (ds es : List Note) → events_of v (ds ++ es) ≡ events_of v ds ++ events_of v es
events-on v [] es = refl
events-on v (d ∷ ds) es = ap (λ xs. (entry_of v d).event ∷ xs) (events-on v ds es)

-- ---- deeds without a tick

abbrev pub Quiet : List Note → Type 0
Quiet [] = Unit {0}
Quiet (Ticked t ∷ ds) = ⊥
Quiet (Sent u s ∷ ds) = Quiet ds
Quiet (Took u s ∷ ds) = Quiet ds

quiet-on : (ds es : List Note) → Quiet ds → Quiet es → Quiet (ds ++ es)
quiet-on [] es one two = two
quiet-on (Ticked t ∷ ds) es one two = elim one [ ]
quiet-on (Sent u s ∷ ds) es one two = quiet-on ds es one two
quiet-on (Took u s ∷ ds) es one two = quiet-on ds es one two

one-send-quiet : (u : ℕ) (ds : List Note) → IsOneSend u ds → Quiet ds
one-send-quiet u ds one = elim one [
  | inl none ↦ subst Quiet (sym none) tt
  | inr some ↦ subst Quiet (sym some.1) tt
]

one-take-quiet : (u : ℕ) (ds : List Note) → IsOneTake u ds → Quiet ds
one-take-quiet u ds one = elim one [
  | inl none ↦ subst Quiet (sym none) tt
  | inr some ↦ subst Quiet (sym some.1) tt
]

sends-quiet : (us : List ℕ) (ds : List Note) → AreSendsTo us ds → Quiet ds
sends-quiet [] ds are = subst Quiet (sym are) tt
sends-quiet (u ∷ us) ds are = subst Quiet (sym are.2) (quiet-on are.0 are.1 (one-send-quiet u are.0 are.3) (sends-quiet us are.1 are.4))

takes-quiet : (us : List ℕ) (ds : List Note) → AreTakesFrom us ds → Quiet ds
takes-quiet [] ds are = subst Quiet (sym are) tt
takes-quiet (u ∷ us) ds are =
    subst Quiet (sym are.3)
    (quiet-on are.0 (are.1 ++ are.2) (one-take-quiet u are.0 are.4) (quiet-on are.1 are.2 (one-take-quiet u are.1 are.5) (takes-quiet us are.2 are.6)))

both-quiet : (us : List ℕ) (ss ts : List Note) → AreSendsTo us ss → AreTakesFrom us ts → Quiet (ss ++ ts)
both-quiet us ss ts sends takes = quiet-on ss ts (sends-quiet us ss sends) (takes-quiet us ts takes)

before-quiet : (v : ℕ) (ds : List Note) → Quiet ds → before_tick (events_of v ds) ≡ events_of v ds
before-quiet v [] quiet = refl
before-quiet v (Ticked t ∷ ds) quiet = elim quiet [ ]
before-quiet v (Sent u s ∷ ds) quiet = ap (λ xs. Send v u ∷ xs) (before-quiet v ds quiet)
before-quiet v (Took u s ∷ ds) quiet = ap (λ xs. Take u v ∷ xs) (before-quiet v ds quiet)

-- ---- counts

count-on : (kind : Event → Bool) (xs ys : List Event) → count_of kind (xs ++ ys) ≡ count_of kind xs + count_of kind ys
count-on kind xs ys = ap length (filter-append kind xs ys) ∙ length-append (filter kind xs) (filter kind ys)

count-sends : (v u : ℕ) (ds : List Note) → count_of (is_send_on v u) (events_of v ds) ≡ length (sent_to u ds)
count-sends v u [] = refl
count-sends v u (Ticked t ∷ ds) = count-sends v u ds
count-sends v u (Sent w s ∷ ds) = let later = count-sends v u ds in grind (arith, common_steps, later)
count-sends v u (Took w s ∷ ds) = count-sends v u ds

count-takes : (v u : ℕ) (ds : List Note) → count_of (is_take_on u v) (events_of v ds) ≡ length (taken_from u ds)
count-takes v u [] = refl
count-takes v u (Ticked t ∷ ds) = count-takes v u ds
count-takes v u (Sent w s ∷ ds) = count-takes v u ds
count-takes v u (Took w s ∷ ds) = let later = count-takes v u ds in grind (arith, common_steps, later)

quiet-ticks : (v : ℕ) (ds : List Note) → Quiet ds → count_of (is_tick_of v) (events_of v ds) ≡ 0
quiet-ticks v [] quiet = refl
quiet-ticks v (Ticked t ∷ ds) quiet = elim quiet [ ]
quiet-ticks v (Sent u s ∷ ds) quiet = quiet-ticks v ds quiet
quiet-ticks v (Took u s ∷ ds) quiet = quiet-ticks v ds quiet

one-tick : (v : ℕ) (es : List Event) → count_of (is_tick_of v) es ≡ 0 → count_of (is_tick_of v) (Tick v ∷ es) ≡ 1
one-tick v es none = grind (arith, common_steps, none)

round-ticks : (v : ℕ) (us : List ℕ) (ds : List Note) → IsRound us ds → count_of (is_tick_of v) (events_of v ds) ≡ 1
round-ticks v us ds round =
    let rest = round.sends ++ round.takes in
    let none = quiet-ticks v rest (both-quiet us round.sends round.takes round.are_sends round.are_takes) in
    ap (λ xs. count_of (is_tick_of v) (events_of v xs)) round.are ∙ one-tick v (events_of v rest) none

-- each round has its one tick
pub rounds-ticks : (v : ℕ) (us : List ℕ) (n : ℕ) (ds : List Note) → AreRounds us n ds → count_of (is_tick_of v) (events_of v ds) ≡ n
rounds-ticks v us zero ds are = ap (λ xs. count_of (is_tick_of v) (events_of v xs)) are
rounds-ticks v us (suc n) ds are =
    let first = events_of v are.0 in
    let later = events_of v are.1 in
    let same : count_of (is_tick_of v) (events_of v ds) ≡ count_of (is_tick_of v) (first ++ later) = ap (count_of (is_tick_of v)) (ap (events_of v) are.2 ∙ events-on v are.0 are.1) in
    let both = count-on (is_tick_of v) first later in
    let one = round-ticks v us are.0 are.3 in
    let more = rounds-ticks v us n are.1 are.4 in
    omega (arith, same, both, one, more)

-- ---- the first turn

module _ (w : World) (v : ℕ) (us : List ℕ) (ss ts : List Note) (sends : AreSendsTo us ss) (takes : AreTakesFrom us ts) where
  whole : before_tick (events_of v (ss ++ ts)) ≡ events_of v (ss ++ ts)
  whole = before-quiet v (ss ++ ts) (both-quiet us ss ts sends takes)

  as-sent : (u : ℕ) → 0 < length (sent_to u ss) → 0 < count_of (is_send_on v u) (before_tick (events_of v (ss ++ ts)))
  as-sent u some =
      let a = ap (count_of (is_send_on v u)) whole in
      let b = count-sends v u (ss ++ ts) in
      let c = ap length (sent-on u ss ts) in
      let d = length-append (sent_to u ss) (sent_to u ts) in
      omega (arith, a, b, c, d, some)

  as-taken : (u least : ℕ) → least ≤ length (taken_from u ts) → least ≤ count_of (is_take_on u v) (before_tick (events_of v (ss ++ ts)))
  as-taken u least some =
      let a = ap (count_of (is_take_on u v)) whole in
      let b = count-takes v u (ss ++ ts) in
      let c = ap length (taken-on u ss ts) in
      let d = length-append (taken_from u ss) (taken_from u ts) in
      omega (arith, a, b, c, d, some)

  pub first-of-round : (t : ℕ) → us ≡ neighbours_of w.net v → All (λ u. IsTrue (has_room w v u) → 0 < length (sent_to u ss)) us
      → All (λ u. min 2 (length (w.link u v)) ≤ length (taken_from u ts)) us → IsFirstTurn w v (events_of v (Ticked t ∷ (ss ++ ts)))
  first-of-round t same sent taken =
      let later = events_of v (ss ++ ts) in
      let all-sent : All (λ u. IsTrue (has_room w v u) → 0 < count_of (is_send_on v u) (before_tick later)) us = λ k d within room. as-sent _ (sent k d within room) in
      let all-taken : All (λ u. min 2 (length (w.link u v)) ≤ count_of (is_take_on u v) (before_tick later)) us = λ k d within. as-taken _ _ (taken k d within) in
      record {
        later = later;
        ticks = refl;
        sends = subst (All (λ u. IsTrue (has_room w v u) → 0 < count_of (is_send_on v u) (before_tick later))) same all-sent;
        takes = subst (All (λ u. min 2 (length (w.link u v)) ≤ count_of (is_take_on u v) (before_tick later))) same all-taken;
      }

before-stays : (v : ℕ) (xs ys : List Event) → before_tick (xs ++ Tick v ∷ ys) ≡ before_tick xs
before-stays v [] ys = refl
before-stays v (e ∷ xs) ys = ap (λ zs. if is_tick e then [] else e ∷ zs) (before-stays v xs ys)

-- what comes from the next tick on does not matter
pub first-stays : (w : World) (v : ℕ) (xs ys : List Event) → IsFirstTurn w v xs → IsFirstTurn w v (xs ++ Tick v ∷ ys)
first-stays w v xs ys first =
    let same : before_tick (first.later ++ Tick v ∷ ys) ≡ before_tick first.later = before-stays v first.later ys in
    record {
      later = first.later ++ Tick v ∷ ys;
      ticks = ap (λ zs. zs ++ Tick v ∷ ys) first.ticks;
      sends = subst (λ es. All (λ u. IsTrue (has_room w v u) → 0 < count_of (is_send_on v u) es) (neighbours_of w.net v)) (sym same) first.sends;
      takes = subst (λ es. All (λ u. min 2 (length (w.link u v)) ≤ count_of (is_take_on u v) es) (neighbours_of w.net v)) (sym same) first.takes;
    }
