-- What the two ends of a link say together, and what a node did in a woven list.
use Rattle.std.proofs.Common.{◌≡◌, ℕ, ◌-◌, ◌<◌, List, [], ◌∷◌, ◌++◌, length, drop, filter, nat_le, ap, refl, sym, ◌∙◌, arith, ◌==◌, true, map}
use Rattle.std.proofs.lemmas.Grind.{common_steps}
use Rattle.std.proofs.lemmas.List.{map-append, map-id}
use Rattle.std.proofs.lemmas.Simd.{map-map}
use Rattle.std.proofs.Math.Seq.{drop-append_seam}
use Rattle.std.specs.List.{AllZip, AllByRecursion}
use Rattle.rtrb.specs.Ring.{received}
use Rattle.link_model.specs.declared.item.Item.{Item}
use Rattle.node_runner.specs.weaving.declared.journal.Stamped.{Stamped}
use Rattle.node_runner.specs.weaving.Matched.{AreAbove, stamps, items, IsLinkMatched, AreOf}
use Rattle.node_runner.specs.declared.ports.Outgoing.{Outgoing}
use Rattle.node_runner.specs.declared.ports.Incoming.{Incoming}
use Rattle.node_runner.specs.Stamps.{IsTakeOf, last_place}
use Rattle.node_runner.specs.Ports.{opening, stamped, IsSender, IsReceiver}
use Rattle.thread_net.specs.Cables.{IsFlushed, left_on}
use Rattle.judge.specs.run_model.declared.event.Event.{Event}
use Rattle.node_runner.specs.weaving.declared.journal.JournalEntry.{JournalEntry}
use Rattle.node_runner.specs.weaving.Account.{Note, entry_of}
use Rattle.node_runner.specs.weaving.Woven.{Placed, entries_of, IsWoven}
use Rattle.node_runner.specs.FirstTurn.{count_of, deeds_of, is_deed_of, is_tick_of}
use Rattle.node_runner.specs.Due.{events_of}

-- ---- the two ends of a link

taken-items : (takes came : List Stamped) → AllZip IsTakeOf takes came → items takes ≡ items came
taken-items [] [] all = refl
taken-items [] (y ∷ ys) all = elim all [ ]
taken-items (x ∷ xs) [] all = elim all [ ]
taken-items (x ∷ xs) (y ∷ ys) all = let later = taken-items xs ys all.1 in let one = all.0.item in ap (λ i. i ∷ items xs) one ∙ ap (λ zs. y.item ∷ zs) later

-- takes are later than what they took, and so than the sends that are a longer list
above-taken : (takes came left : List Stamped) → AllZip IsTakeOf takes came → AreAbove (stamps takes) (stamps (came ++ left))
above-taken [] came left all = tt
above-taken (x ∷ xs) [] left all = elim all [ ]
above-taken (x ∷ xs) (y ∷ ys) left all = (all.0.later, above-taken xs ys left all.1)

-- without what stood there at first
above-drop : (old : List Item) (takes sends : List Stamped) → AreAbove (stamps takes) (stamps (opening old ++ sends)) → AreAbove (drop (length old) (stamps takes)) (stamps sends)
above-drop [] takes sends above = above
above-drop (i ∷ old) [] sends above = tt
above-drop (i ∷ old) (x ∷ takes) sends above = above-drop old takes sends above.1

above-longer : (xs ys zs : List ℕ) → AreAbove xs ys → AreAbove xs (ys ++ zs)
above-longer [] ys zs above = tt
above-longer (x ∷ xs) [] zs above = elim above [ ]
above-longer (x ∷ xs) (y ∷ ys) zs above = (above.0, above-longer xs ys zs above.1)

-- stamps rise strictly
abbrev pub Rise : List ℕ → Type 0
Rise [] = Unit {0}
Rise (x ∷ xs) = AllByRecursion (λ y. x < y) xs × Rise xs

none-back : (x : ℕ) (xs : List ℕ) → last_place < x → AllByRecursion (λ y. x < y) xs → filter (λ stamp. nat_le stamp last_place) xs ≡ []
none-back x [] high all = refl
none-back x (y ∷ ys) high all = let h = all.0 in let later = none-back x ys high all.1 in grind (arith, common_steps)

-- the places that are given back are those of the first takes
above-back : (zs xs : List ℕ) → Rise xs → AreAbove zs (filter (λ stamp. nat_le stamp last_place) xs) → AreAbove zs xs
above-back [] xs rise above = tt
above-back (z ∷ zs) [] rise above = elim above [ ]
above-back (z ∷ zs) (x ∷ xs) rise above = let later = above-back zs xs rise.1 in let none = none-back x xs in grind (arith, common_steps, later, none, rise, above)

module _ {A : Type 0} (capacity : ℕ) (old : List Item) (sends takes : List Stamped) (o : Outgoing A) (i : Incoming A)
    (sender : IsSender capacity old sends o) (receiver : IsReceiver capacity (length old) takes i) (flushed : IsFlushed o i) (rise : Rise (stamps takes)) where
  pub link-matched : IsLinkMatched capacity old sends takes (left_on o i)
  link-matched =
      let came = received i.frames in
      let went : came ++ flushed.0.0 ≡ opening old ++ sends = flushed.0.1 ∙ sender.sent in
      let left : left_on o i ≡ items flushed.0.0 = ap items (ap (drop (length came)) (sym flushed.0.1) ∙ drop-append_seam came flushed.0.0) in
      record {
        kept =
            let before = map-append (λ x. x.item) (opening old) sends in
            let after = map-append (λ x. x.item) came flushed.0.0 in
            let both = ap items went in
            let first : items (opening old) ≡ old = map-map (λ x. x.item) (stamped 0) old ∙ map-id old in
            let taken = taken-items takes came receiver.taken in
            cc;
        taken_later = above-drop old takes sends (rw went at (above-taken takes came flushed.0.0 receiver.taken));
        sent_later = above-back _ (stamps takes) rise (rw (flushed.1.1 ∙ receiver.returned) at (above-longer (drop (capacity - length old) (stamps sends)) (received o.places) flushed.1.0 sender.later));
      }

-- ---- a node's own events in a woven list

-- the event of the entry is a deed of u
abbrev IsOwn : ℕ → JournalEntry → Type 0
IsOwn u e = is_deed_of u e.event ≡ true

deed-own : (u : ℕ) (d : Note) → IsOwn u (entry_of u d)
deed-own u d = grind (arith, common_steps)

account-own : (u : ℕ) (ds : List Note) → AllByRecursion (IsOwn u) (map (entry_of u) ds)
account-own u [] = tt
account-own u (d ∷ ds) = (deed-own u d, account-own u ds)

after-first : (v : ℕ) (p : Placed) (ps : List Placed) → AllByRecursion (IsOwn v) (entries_of v (p ∷ ps)) → AllByRecursion (IsOwn v) (entries_of v ps)
after-first v p ps all = grind (arith, common_steps, all)

-- a deed of one node is no other's
first-own : (v : ℕ) (p : Placed) (ps : List Placed) → AllByRecursion (IsOwn p.node) (entries_of p.node (p ∷ ps)) → is_deed_of v p.entry.event ≡ (p.node == v)
first-own v p ps all = grind (arith, common_steps, all)

placed-own : (v : ℕ) (ps : List Placed) → ((u : ℕ) → AllByRecursion (IsOwn u) (entries_of u ps)) → deeds_of v (map (λ p. p.entry.event) ps) ≡ map (λ e. e.event) (entries_of v ps)
placed-own v [] each = refl
placed-own v (p ∷ ps) each =
    let later = placed-own v ps (λ u. after-first u p ps (each u)) in
    let one = first-own v p ps (each p.node) in
    grind (arith, common_steps, later, one)

pub own-deeds : (account : ℕ → List Note) (journal : ℕ → List JournalEntry) (events : List Event) (v : ℕ) → AreOf account journal → IsWoven journal events
    → deeds_of v events ≡ events_of v (account v)
own-deeds account journal events v said woven =
    let each : (u : ℕ) → AllByRecursion (IsOwn u) (entries_of u woven.placed) = λ u. rw (woven.complete u, said u) (account-own u (account u)) in
    rw (← woven.are_events) (placed-own v woven.placed each ∙ (ap (map (λ e. e.event)) (woven.complete v ∙ said v) ∙ map-map (λ e. e.event) (entry_of v) (account v)))

-- a node's ticks are among its own events
pub own-ticks : (v : ℕ) (es : List Event) → count_of (is_tick_of v) es ≡ count_of (is_tick_of v) (deeds_of v es)
own-ticks v [] = refl
own-ticks v (e ∷ es) = let later = own-ticks v es in grind (arith, common_steps, later)
