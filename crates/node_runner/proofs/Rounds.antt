-- What a node does, one thing after the other.
use Rattle.std.proofs.Common.{◌≡◌, ◌⊎◌, inl, inr, ℕ, zero, suc, ◌+◌, ◌*◌, ◌<◌, ◌≤◌, min, IsTrue, List, [], ◌∷◌, ◌++◌, All, length, ap, refl, sym, subst, ◌∙◌, arith, append_assoc, append-nil, slice_index_or, length-append, take}
use Rattle.std.proofs.lemmas.Grind.{common_steps}
use Rattle.std.proofs.lemmas.List.Elements.{All-push}
use Rattle.topology.specs.Network.{neighbours_of}
use Rattle.run_model.specs.Step.{has_room}
use Rattle.run_model.specs.declared.event.Event.TheVariants.{Tick}
use Rattle.std.proofs.Math.Numerals.{add-one}
use Rattle.std.proofs.Math.Seq.{take-suc}
use Rattle.rtrb.specs.Ring.{SameProducer, SameConsumer}
use Rattle.rtrb.specs.declared.producer.Producer.{Producer}
use Rattle.rtrb.specs.declared.consumer.Consumer.{Consumer}
use Rattle.weaving.specs.Account.{Note, Ticked, sent_to, taken_from}
use Rattle.node_runner.specs.declared.runner.RunnerPort.{RunnerPort}
use Rattle.node_runner.specs.declared.runner.Runner.{Runner}
use Rattle.node_runner.specs.Runner.{IsNoted, IsReady, Does, IsSamePort, AreSamePorts, IsOneSend, IsOneTake, port_ids, round_room}
use Rattle.node_runner.specs.Rounds.{AreSendsTo, AreTakesFrom, IsRound, AreRounds}
use Rattle.node_runner.specs.Stamps.{last_place, last_stamp}
use Rattle.node_runner.specs.FirstTurn.{IsFirstTurn}
use Rattle.node_runner.specs.Due.{IsSendDue, IsTakeDue, IsSlow, AreSendsDue, AreTakesDue, BeginsWhole, events_of}
use Rattle.node_runner.proofs.Accounts.{sent-on, taken-on}
use Rattle.node_runner.proofs.AccountEvents.{events-on, first-of-round, first-stays}
use Rattle.node_runner.proofs.PortLists.{all-same, long}

producer-trans : {T A P : Type 0} (a b c : Producer T A P) → SameProducer a b → SameProducer b c → SameProducer a c
producer-trans a b c x y = ((y.0.0 ∙ x.0.0, y.0.1 ∙ x.0.1, y.0.2 ∙ x.0.2, y.0.3 ∙ x.0.3), y.1 ∙ x.1)

consumer-trans : {T A P : Type 0} (a b c : Consumer T A P) → SameConsumer a b → SameConsumer b c → SameConsumer a c
consumer-trans a b c x y = ((y.0.0 ∙ x.0.0, y.0.1 ∙ x.0.1, y.0.2 ∙ x.0.2, y.0.3 ∙ x.0.3), y.1 ∙ x.1)

port-trans : {A : Type 0} (a b c : RunnerPort A) → IsSamePort a b → IsSamePort b c → IsSamePort a c
port-trans a b c x y = (
  y.0 ∙ x.0,
  (producer-trans a.outgoing.frames b.outgoing.frames c.outgoing.frames x.1.0 y.1.0, consumer-trans a.outgoing.places b.outgoing.places c.outgoing.places x.1.1 y.1.1),
  (consumer-trans a.incoming.frames b.incoming.frames c.incoming.frames x.2.0 y.2.0, producer-trans a.incoming.places b.incoming.places c.incoming.places x.2.1 y.2.1),
)

module _ {A : Type 0} where
  ports-trans : (xs ys zs : List (RunnerPort A)) → AreSamePorts xs ys → AreSamePorts ys zs → AreSamePorts xs zs
  ports-trans xs ys zs x y = (
    y.0 ∙ x.0,
    λ k d within. port-trans (slice_index_or xs k d) (slice_index_or ys k d) (slice_index_or zs k d) (x.1 k d within) (y.1 k d (subst (λ n. k < n) (sym x.0) within)),
  )

  pub does-nothing : (a : Runner A) → IsReady a → Does [] a a
  does-nothing a ready = record {
    said = λ w v past was. subst (λ ds. IsNoted w v ds a) (sym (append-nil past)) was;
    ready = ready;
    id = refl;
    site = refl;
    ports = all-same a.ports.items;
    entries = omega arith;
    room = refl;
  }

  pub does-both : (a b c : Runner A) (ds es : List Note) → Does ds a b → Does es b c → Does (ds ++ es) a c
  does-both a b c ds es x y = record {
    said = λ w v past was. subst (λ all. IsNoted w v all c) (append_assoc past ds es) (y.said w v (past ++ ds) (x.said w v past was));
    ready = y.ready;
    id = y.id ∙ x.id;
    site = y.site ∙ x.site;
    ports = ports-trans a.ports.items b.ports.items c.ports.items x.ports y.ports;
    entries = let p = x.entries in let q = y.entries in let l = length-append ds es in omega arith;
    room = y.room ∙ x.room;
  }

  pub same-ids : (a b : Runner A) (ds : List Note) → IsReady a → Does ds a b → port_ids b ≡ port_ids a
  same-ids a b ds ready x = x.ready.ports ∙ (ap (λ s. s.neighbours) x.site ∙ sym ready.ports)

pub one-send-length : (u : ℕ) (ds : List Note) → IsOneSend u ds → length ds ≤ 1
one-send-length u ds one = elim one [
  | inl none ↦ let l = ap length none in omega arith
  | inr some ↦ let l = ap length some.1 in omega arith
]

pub one-take-length : (u : ℕ) (ds : List Note) → IsOneTake u ds → length ds ≤ 1
one-take-length u ds one = elim one [
  | inl none ↦ let l = ap length none in omega arith
  | inr some ↦ let l = ap length some.1 in omega arith
]

sends-push : (us : List ℕ) (u : ℕ) (ds es : List Note) → AreSendsTo us ds → IsOneSend u es → AreSendsTo (us ++ u ∷ []) (ds ++ es)
sends-push [] u ds es are one = (es, [], (ap (λ xs. xs ++ es) are ∙ sym (append-nil es)), one, refl)
sends-push (w ∷ us) u ds es are one =
    (are.0, are.1 ++ es, ap (λ xs. xs ++ es) are.2 ∙ append_assoc are.0 are.1 es, are.3, sends-push us u are.1 es are.4 one)

takes-push : (us : List ℕ) (u : ℕ) (ds es fs : List Note) → AreTakesFrom us ds → IsOneTake u es → IsOneTake u fs → AreTakesFrom (us ++ u ∷ []) (ds ++ (es ++ fs))
takes-push [] u ds es fs are one two = (es, fs, [], (ap (λ xs. xs ++ (es ++ fs)) are ∙ ap (λ xs. es ++ xs) (sym (append-nil fs))), one, two, refl)
takes-push (w ∷ us) u ds es fs are one two =
    let more = es ++ fs in (
      are.0,
      are.1,
      are.2 ++ more,
      ap (λ xs. xs ++ more) are.3 ∙ (append_assoc are.0 (are.1 ++ are.2) more ∙ ap (λ xs. are.0 ++ xs) (append_assoc are.1 are.2 more)),
      are.4,
      are.5,
      takes-push us u are.2 es fs are.6 one two,
    )

-- the same, of the first of a list
pub sends-next : (us : List ℕ) (k : ℕ) (ds es : List Note) → k < length us → AreSendsTo (take k us) ds → IsOneSend (slice_index_or us k 0) es → AreSendsTo (take (k + 1) us) (ds ++ es)
sends-next us k ds es within are one =
    let more : take (k + 1) us ≡ take k us ++ slice_index_or us k 0 ∷ [] = rw add-one (take-suc us k 0 within) in
    subst (λ xs. AreSendsTo xs (ds ++ es)) (sym more) (sends-push (take k us) (slice_index_or us k 0) ds es are one)

pub takes-next : (us : List ℕ) (k : ℕ) (ds es fs : List Note) → k < length us → AreTakesFrom (take k us) ds → IsOneTake (slice_index_or us k 0) es
    → IsOneTake (slice_index_or us k 0) fs → AreTakesFrom (take (k + 1) us) (ds ++ (es ++ fs))
takes-next us k ds es fs within are one two =
    let more : take (k + 1) us ≡ take k us ++ slice_index_or us k 0 ∷ [] = rw add-one (take-suc us k 0 within) in
    subst (λ xs. AreTakesFrom xs (ds ++ (es ++ fs))) (sym more) (takes-push (take k us) (slice_index_or us k 0) ds es fs are one two)

rounds-push : (us : List ℕ) (n : ℕ) (ds es : List Note) → AreRounds us n ds → IsRound us es → AreRounds us (suc n) (ds ++ es)
rounds-push us zero ds es are one = (es, [], (ap (λ xs. xs ++ es) are ∙ sym (append-nil es)), one, refl)
rounds-push us (suc n) ds es are one =
    (are.0, are.1 ++ es, ap (λ xs. xs ++ es) are.2 ∙ append_assoc are.0 are.1 es, are.3, rounds-push us n are.1 es are.4 one)

pub rounds-next : (us : List ℕ) (n : ℕ) (ds es : List Note) → AreRounds us n ds → IsRound us es → AreRounds us (n + 1) (ds ++ es)
rounds-next us n ds es are one = subst (λ m. AreRounds us m (ds ++ es)) (sym (add-one n)) (rounds-push us n ds es are one)

mul-step : (n k a b : ℕ) → a ≤ n * k → b ≤ k → a + b ≤ (n + 1) * k
mul-step n k a b some one = grind arith

-- ---- what is due

-- later deeds leave what was sent and taken
more-sent : (u n : ℕ) (ds es : List Note) → n < length (sent_to u ds) → n < length (sent_to u (ds ++ es))
more-sent u n ds es some = let a = ap length (sent-on u ds es) in let b = length-append (sent_to u ds) (sent_to u es) in omega (arith, a, b, some)

more-taken : (u n : ℕ) (ds es : List Note) → n ≤ length (taken_from u ds) → n ≤ length (taken_from u (ds ++ es))
more-taken u n ds es some = let a = ap length (taken-on u ds es) in let b = length-append (taken_from u ds) (taken_from u es) in omega (arith, a, b, some)

one-sent : (u : ℕ) (es : List Note) → IsOneSend u es → length (sent_to u es) ≡ length es
one-sent u es one = elim one [
  | inl none ↦ subst (λ xs. length (sent_to u xs) ≡ length xs) (sym none) refl
  | inr some ↦ subst (λ xs. length (sent_to u xs) ≡ length xs) (sym some.1) (grind (arith, common_steps))
]

one-taken : (u : ℕ) (es : List Note) → IsOneTake u es → length (taken_from u es) ≡ length es
one-taken u es one = elim one [
  | inl none ↦ subst (λ xs. length (taken_from u xs) ≡ length xs) (sym none) refl
  | inr some ↦ subst (λ xs. length (taken_from u xs) ≡ length xs) (sym some.1) (grind (arith, common_steps))
]

nothing : {X : Type 0} (xs : List X) → length xs ≡ 0 → xs ≡ []
nothing [] none = refl
nothing (x ∷ xs) none = absurd (omega (arith, none))

-- each of two takes is made if fewer items were taken than there are
two-takes : (least m e f : ℕ) → (m < least → 0 < e) → (m + e < least → 0 < f) → e ≤ 1 → f ≤ 1 → min 2 least ≤ m + (e + f)
two-takes least m e f first second few few' =
    let cases : (m < least) ⊎ (least ≤ m) = grind arith in
    elim cases [
      | inr all ↦ grind (arith, common_steps, all)
      | inl some ↦
          let one = first some in
          let cases' : (m + e < least) ⊎ (least ≤ m + e) = grind arith in
          elim cases' [
            | inr all ↦ grind (arith, common_steps, all)
            | inl more ↦ let two = second more in grind (arith, common_steps, one, two)
          ]
    ]

early : last_place + 66 ≤ last_stamp
early = omega arith

module _ {A : Type 0} where
  slow-none : (a b : Runner A) → b.clock ≡ a.clock → IsSlow 0 a b
  slow-none a b same = λ bound late up. omega (arith, same, up)

  slow-both : (a b c : Runner A) (m n : ℕ) → IsSlow m a b → IsSlow n b c → IsSlow (m + n) a c
  slow-both a b c m n x y = λ bound late up. let one = x bound late up in let two = y (bound + m) (omega (arith, late)) one in omega (arith, two)

  -- one more port has had its send, which was due
  sends-due : (a b : Runner A) (us : List ℕ) (k : ℕ) (ds es : List Note) → k < length us → Does ds a b → IsSlow (length ds) a b → length ds ≤ k → k < length a.ports.items
      → AreSendsDue (take k us) a ds → IsOneSend (slice_index_or us k 0) es → IsSendDue (slice_index_or us k 0) b es → AreSendsDue (take (k + 1) us) a (ds ++ es)
  sends-due a b us k ds es within does slow few ports due one next = λ w v past said none start most.
      let u = slice_index_or us k 0 in
      let more : take (k + 1) us ≡ take k us ++ u ∷ [] = rw add-one (take-suc us k 0 within) in
      let Given : ℕ → Type 0 = λ x. IsTrue (has_room w v x) → 0 < length (sent_to x (ds ++ es)) in
      let before : All Given (take k us) = λ j d below room. more-sent _ 0 ds es (due w v past said none start most j d below room) in
      let here : Given u = λ room.
      let cases : (0 < length (sent_to u ds)) ⊎ (length (sent_to u ds) ≡ 0) = grind arith in
      elim cases [
        | inl some ↦ more-sent u 0 ds es some
        | inr nought ↦
            let unsent : sent_to u (past ++ ds) ≡ [] = sent-on u past ds ∙ (ap (λ xs. xs ++ sent_to u ds) (none u) ∙ nothing (sent_to u ds) nought) in
            let clock = slow (last_place + 1) (omega arith) start in
            let soon = early in
            let some = next w v (past ++ ds) (does.said w v past said) room unsent (omega (arith, clock, few, ports, most, soon)) in
            let a = ap length (sent-on u ds es) in
            let b = length-append (sent_to u ds) (sent_to u es) in
            let c = one-sent u es one in
            omega (arith, some, a, b, c)
      ] in
      subst (All Given) (sym more) (All-push Given (take k us) u before here)

  -- one more port has had its takes, which were due
  takes-due : (a b c : Runner A) (us : List ℕ) (k : ℕ) (ds es fs : List Note) → k < length us → Does ds a b → Does es b c
      → AreTakesDue (take k us) a ds → IsOneTake (slice_index_or us k 0) es → IsTakeDue (slice_index_or us k 0) b es
      → IsOneTake (slice_index_or us k 0) fs → IsTakeDue (slice_index_or us k 0) c fs → AreTakesDue (take (k + 1) us) a (ds ++ (es ++ fs))
  takes-due a b c us k ds es fs within does does' due one next two next' = λ w v past said links none.
      let u = slice_index_or us k 0 in
      let more : take (k + 1) us ≡ take k us ++ u ∷ [] = rw add-one (take-suc us k 0 within) in
      let Taken : ℕ → Type 0 = λ x. min 2 (length (w.link x v)) ≤ length (taken_from x (ds ++ (es ++ fs))) in
      let before : All Taken (take k us) = λ j d below. more-taken _ _ ds (es ++ fs) (due w v past said links none j d below) in
      let first : length (taken_from u (past ++ ds)) ≡ length (taken_from u ds) = ap length (taken-on u past ds ∙ ap (λ xs. xs ++ taken_from u ds) (none u)) in
      let second : length (taken_from u ((past ++ ds) ++ es)) ≡ length (taken_from u ds) + length es =
      ap length (taken-on u (past ++ ds) es) ∙ (length-append (taken_from u (past ++ ds)) (taken_from u es) ∙ (let x = first in let y = one-taken u es one in omega (arith, x, y))) in
      let told' = does.said w v past said in
      let told'' = does'.said w v (past ++ ds) told' in
      let count = two-takes (length (w.link u v)) (length (taken_from u ds)) (length es) (length fs)
      (λ less. next w v (past ++ ds) told' links (omega (arith, first, less)))
      (λ less. next' w v ((past ++ ds) ++ es) told'' links (omega (arith, second, less)))
      (one-take-length u es one) (one-take-length u fs two) in
      let all : length (taken_from u (ds ++ (es ++ fs))) ≡ length (taken_from u ds) + (length es + length fs) =
      (let p = ap length (taken-on u ds (es ++ fs)) in
      let q = length-append (taken_from u ds) (taken_from u (es ++ fs)) in
      let r = ap length (taken-on u es fs) in
      let s = length-append (taken_from u es) (taken_from u fs) in
      let x = one-taken u es one in
      let y = one-taken u fs two in
      omega (arith, p, q, r, s, x, y)) in
      let here : Taken u = omega (arith, count, all) in
      subst (All Taken) (sym more) (All-push Taken (take k us) u before here)

-- sends take nothing
sends-untaken : (u : ℕ) (us : List ℕ) (ds : List Note) → AreSendsTo us ds → taken_from u ds ≡ []
sends-untaken u [] ds are = ap (taken_from u) are
sends-untaken u (x ∷ us) ds are =
    ap (taken_from u) are.2 ∙ (taken-on u are.0 are.1 ∙ (ap (λ xs. xs ++ taken_from u are.1) (one-untaken are.0 are.3) ∙ sends-untaken u us are.1 are.4)) where
      one-untaken : (es : List Note) → IsOneSend x es → taken_from u es ≡ []
      one-untaken es one = elim one [
        | inl none ↦ ap (taken_from u) none
        | inr some ↦ ap (taken_from u) some.1
      ]

module _ {A : Type 0} where
  -- one more port has had its send
  pub send-turn : (a b c : Runner A) (k : ℕ) → IsReady a → k < length a.ports.items
      → (ds : List Note) × Does ds a b × AreSendsTo (take k (port_ids a)) ds × (length ds ≤ k) × AreSendsDue (take k (port_ids a)) a ds × IsSlow (length ds) a b
      → (es : List Note) × Does es b c × IsOneSend (slice_index_or (port_ids b) k 0) es × IsSendDue (slice_index_or (port_ids b) k 0) b es × IsSlow (length es) b c
      → (ds : List Note) × Does ds a c × AreSendsTo (take (k + 1) (port_ids a)) ds × (length ds ≤ k + 1) × AreSendsDue (take (k + 1) (port_ids a)) a ds × IsSlow (length ds) a c
  send-turn a b c k ready within was one =
      let ids = same-ids a b was.0 ready was.1 in
      let it : IsOneSend (slice_index_or (port_ids a) k 0) one.0 = subst (λ xs. IsOneSend (slice_index_or xs k 0) one.0) ids one.2 in
      let many = long a.ports.items in
      let few = one-send-length (slice_index_or (port_ids a) k 0) one.0 it in
      let all = length-append was.0 one.0 in
      let before = was.3 in (
        was.0 ++ one.0,
        does-both a b c was.0 one.0 was.1 one.1,
        sends-next (port_ids a) k was.0 one.0 (omega arith) was.2 it,
        omega arith,
        sends-due a b (port_ids a) k was.0 one.0 (omega arith) was.1 was.5 was.3 within was.4 it (subst (λ xs. IsSendDue (slice_index_or xs k 0) b one.0) ids one.3),
        subst (λ n. IsSlow n a c) (sym all) (slow-both a b c (length was.0) (length one.0) was.5 one.4),
      )

  -- one more port has had its takes
  pub take-turn : (a b c d : Runner A) (k : ℕ) → IsReady a → k < length a.ports.items
      → (ds : List Note) × Does ds a b × AreTakesFrom (take k (port_ids a)) ds × (length ds ≤ 2 * k) × AreTakesDue (take k (port_ids a)) a ds
      → (es : List Note) × Does es b c × IsOneTake (slice_index_or (port_ids b) k 0) es × IsTakeDue (slice_index_or (port_ids b) k 0) b es
      → (fs : List Note) × Does fs c d × IsOneTake (slice_index_or (port_ids c) k 0) fs × IsTakeDue (slice_index_or (port_ids c) k 0) c fs
      → (ds : List Note) × Does ds a d × AreTakesFrom (take (k + 1) (port_ids a)) ds × (length ds ≤ 2 * (k + 1)) × AreTakesDue (take (k + 1) (port_ids a)) a ds
  take-turn a b c d k ready within was one two =
      let u = slice_index_or (port_ids a) k 0 in
      let ids = same-ids a b was.0 ready was.1 in
      let ids' = same-ids b c one.0 was.1.ready one.1 in
      let first : IsOneTake u one.0 = subst (λ xs. IsOneTake (slice_index_or xs k 0) one.0) ids one.2 in
      let second : IsOneTake u two.0 = subst (λ xs. IsOneTake (slice_index_or xs k 0) two.0) (ids' ∙ ids) two.2 in
      let many = long a.ports.items in
      let few = one-take-length u one.0 first in
      let few' = one-take-length u two.0 second in
      let both = one.0 ++ two.0 in
      let all = length-append was.0 both in
      let all' = length-append one.0 two.0 in
      let before = was.3 in (
        was.0 ++ both,
        does-both a b d was.0 both was.1 (does-both b c d one.0 two.0 one.1 two.1),
        takes-next (port_ids a) k was.0 one.0 two.0 (omega arith) was.2 first second,
        omega arith,
        takes-due a b c (port_ids a) k was.0 one.0 two.0 (omega arith) was.1 one.1 was.4 first (subst (λ xs. IsTakeDue (slice_index_or xs k 0) b one.0) ids one.3)
            second (subst (λ xs. IsTakeDue (slice_index_or xs k 0) c two.0) (ids' ∙ ids) two.3),
      )

  -- a tick, then the sends, then the takes are a round
  pub one-round : (a b c d : Runner A) → IsReady a
      → (t : ℕ) × Does (Ticked t ∷ []) a b × IsSlow 1 a b
      → (ss : List Note) × Does ss b c × AreSendsTo (port_ids b) ss × (length ss ≤ length b.ports.items) × AreSendsDue (port_ids b) b ss
      → (ts : List Note) × Does ts c d × AreTakesFrom (port_ids c) ts × (length ts ≤ 2 * length c.ports.items) × AreTakesDue (port_ids c) c ts
      → (round : List Note) × Does round a d × IsRound (port_ids a) round × (length round ≤ round_room a) × BeginsWhole a round
  one-round a b c d ready tick sends takes =
      let rest = sends.0 ++ takes.0 in
      let ids = same-ids a b (Ticked tick.0 ∷ []) ready tick.1 in
      let ids' = same-ids b c sends.0 tick.1.ready sends.1 in
      let round : IsRound (port_ids a) (Ticked tick.0 ∷ rest) = record {
        stamp = tick.0;
        sends = sends.0;
        takes = takes.0;
        are = refl;
        are_sends = subst (λ us. AreSendsTo us sends.0) ids sends.2;
        are_takes = subst (λ us. AreTakesFrom us takes.0) (ids' ∙ ids) takes.2;
      } in
      let many = tick.1.ports.0 in
      let many' = sends.1.ports.0 in
      let all = length-append sends.0 takes.0 in
      let few = sends.3 in
      let few' = takes.3 in
      let longer : length (Ticked tick.0 ∷ rest) ≡ 1 + length rest = omega arith in (
        Ticked tick.0 ∷ rest,
        does-both a b d (Ticked tick.0 ∷ []) rest tick.1 (does-both b c d sends.0 takes.0 sends.1 takes.1),
        round,
        omega arith,
        λ clock most w v said links.
            let said-b = tick.1.said w v [] said in
            let said-c = sends.1.said w v (Ticked tick.0 ∷ []) said-b in
            let start = tick.2 last_place (omega arith) (omega (arith, clock)) in
            let untaken : (u : ℕ) → taken_from u (Ticked tick.0 ∷ sends.0) ≡ [] = λ u. sends-untaken u (port_ids b) sends.0 sends.2 in
            let sent = sends.4 w v (Ticked tick.0 ∷ []) said-b (λ u. refl) start (omega (arith, many, most)) in
            let taken = takes.4 w v (Ticked tick.0 ∷ sends.0) said-c links untaken in
            let same : port_ids a ≡ neighbours_of w.net v = ready.ports ∙ ap (λ s. s.neighbours) said.site in
            first-of-round w v (port_ids a) sends.0 takes.0 round.are_sends round.are_takes tick.0 same
            (subst (All (λ u. IsTrue (has_room w v u) → 0 < length (sent_to u sends.0))) ids sent)
            (subst (All (λ u. min 2 (length (w.link u v)) ≤ length (taken_from u takes.0))) (ids' ∙ ids) taken),
      )

  -- the first round is whole, and later ones leave it so
  whole-turn : (a b : Runner A) (n : ℕ) (ds es : List Note) → Does ds a b → AreRounds (port_ids a) n ds → IsRound (port_ids a) es → (n ≡ 0 → b.clock ≡ a.clock)
      → (0 < n → BeginsWhole a ds) → BeginsWhole b es → BeginsWhole a (ds ++ es)
  whole-turn a b zero ds es does are round same was one = λ clock most w v said links.
      let c = same refl in
      let many = does.ports.0 in
      let said-b : IsNoted w v [] b = subst (λ xs. IsNoted w v xs b) are (does.said w v [] said) in
      subst (λ xs. IsFirstTurn w v (events_of v (xs ++ es))) (sym are) (one (omega (arith, c, clock)) (omega (arith, many, most)) w v said-b links)
  whole-turn a b (suc n) ds es does are round same was one = λ clock most w v said links.
      let rest = round.sends ++ round.takes in
      let next : events_of v es ≡ Tick v ∷ events_of v rest = ap (events_of v) round.are in
      let all : events_of v (ds ++ es) ≡ events_of v ds ++ (Tick v ∷ events_of v rest) = events-on v ds es ∙ ap (λ xs. events_of v ds ++ xs) next in
      subst (IsFirstTurn w v) (sym all) (first-stays w v (events_of v ds) (events_of v rest) (was (omega arith) clock most w v said links))

  -- one more round is done
  pub round-turn : (a b c : Runner A) (n : ℕ) → IsReady a
      → ((ds : List Note) × Does ds a b × AreRounds (port_ids a) n ds × (length ds ≤ n * round_room a) × (0 < n → BeginsWhole a ds)) × (n ≡ 0 → b.clock ≡ a.clock)
      → (es : List Note) × Does es b c × IsRound (port_ids b) es × (length es ≤ round_room b) × BeginsWhole b es
      → ((ds : List Note) × Does ds a c × AreRounds (port_ids a) (n + 1) ds × (length ds ≤ (n + 1) * round_room a) × (0 < n + 1 → BeginsWhole a ds)) × (n + 1 ≡ 0 → c.clock ≡ a.clock)
  round-turn a b c n ready (was, same) one =
      let ids = same-ids a b was.0 ready was.1 in
      let it : IsRound (port_ids a) one.0 = subst (λ us. IsRound us one.0) ids one.2 in
      let many = was.1.ports.0 in
      let few : length one.0 ≤ round_room a = let f = one.3 in omega arith in
      let all = length-append was.0 one.0 in
      let room = mul-step n (round_room a) (length was.0) (length one.0) was.3 few in (
        (
          was.0 ++ one.0,
          does-both a b c was.0 one.0 was.1 one.1,
          rounds-next (port_ids a) n was.0 one.0 was.2 it,
          subst (λ m. m ≤ (n + 1) * round_room a) (sym all) room,
          λ some. whole-turn a b n was.0 one.0 was.1 was.2 it same was.4 one.4,
        ),
        λ none. absurd (omega (arith, none)),
      )
