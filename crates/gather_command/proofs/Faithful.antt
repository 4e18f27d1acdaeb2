-- None of the events is refused, and each entry is woven once.
use Rattle.std.proofs.Common.{◌≡◌, ◌≢◌, ◌∙◌, ap, sym, refl, subst, arith, ℕ, zero, suc, ◌<◌, ◌==◌, List, [], ◌∷◌, ◌++◌, Some, None, Bool, true, false, drop}
use Rattle.std.proofs.lemmas.Grind.{common_steps}
use Rattle.std.proofs.lemmas.List.{append-nil}
use Rattle.std.specs.Prelude.{if◌then◌else◌, slice_index_or, slice_set}
use Rattle.record_gathering.specs.configuration.run_model.World.{World}
use Rattle.record_gathering.specs.configuration.run_model.Run.{run}
use Rattle.record_gathering.specs.configuration.run_model.Laws.{RunsJoin, FrameStays}
use Rattle.record_gathering.specs.configuration.run_model.declared.event.Event.{Event}
use Rattle.record_gathering.specs.flight_records.declared.entry.Entry.{Entry}
use Rattle.record_gathering.specs.Accepted.{accepted}
use Rattle.record_gathering.specs.Laws.{AcceptedIsEnough}
use Rattle.record_gathering.specs.Entries.{entry_events}
use Rattle.record_gathering.specs.Order.{head_of}
use Rattle.record_gathering.specs.Queues.{queue_of, queues_after}
use Rattle.record_gathering.proofs.FactsJoin.{accepted-append}
use Rattle.gather_command.specs.Weave.{Moment, moment_at, events_at, world_after, events_of, next_of, heads_of, without_next, IsWoven, NoneLeft, Next}
use Rattle.gather_command.specs.Laws.{entries_of}

-- ---- no event is refused

pub none-refused : AcceptedIsEnough → (w : World) (queues : List (List ℕ)) (records : List (List Entry)) (ms : List Moment)
    → IsWoven w queues records ms → accepted w (events_of ms) ≡ events_of ms
none-refused enough w queues records all (NoneLeft x) = refl
none-refused enough w queues records all (Next {v = v} {e = e} {ms = ms} turn head rest) =
    let own = events_at w queues v e in
    accepted-append w own (events_of ms)
    ∙ ap (λ (es : List Event). es ++ accepted (run w own) (events_of ms))
    (enough.none_refused w (entry_events w (queue_of queues v) v e.noted))
    ∙ ap (λ (es : List Event). own ++ es)
    (none-refused enough (world_after w queues v e) (queues_after queues v e.noted) (without_next records v) ms rest)

-- ---- whom a node lends to

-- the first of a list, and of one that is equal to it
first-is : {X : Type 0} (x y : X) (xs ys : List X) → x ∷ xs ≡ y ∷ ys → x ≡ y
first-is x y xs ys e = cc e

rest-is : {X : Type 0} (x y : X) (xs ys : List X) → x ∷ xs ≡ y ∷ ys → xs ≡ ys
rest-is x y xs ys e = cc e

none-there : (front back : List Moment) (m : Moment) → [] ≡ front ++ m ∷ back → ⊥
none-there [] back m e = cc e
none-there (f ∷ front) back m e = cc e

lent-after : RunsJoin → (w : World) (queues : List (List ℕ)) (records : List (List Entry)) (all : List Moment)
    → IsWoven w queues records all → (front back : List Moment) (m : Moment) → all ≡ front ++ m ∷ back
    → m.lent ≡ ((run w (events_of (front ++ m ∷ []))).node m.node).desk.lent
lent-after join w queues records all (NoneLeft x) front back m e = absurd (none-there front back m e)
lent-after join w queues records all (Next {v = v} {e = e} {ms = ms} turn head rest) [] back m p =
    let own = moment_at w queues v e in
    subst (λ (x : Moment). x.lent ≡ ((run w (events_of (x ∷ []))).node x.node).desk.lent)
    (first-is own m ms back p)
    (ap (λ (es : List Event). ((run w es).node v).desk.lent) (sym (append-nil (events_at w queues v e))))
lent-after join w queues records all (Next {v = v} {e = e} {ms = ms} turn head rest) (f ∷ front) back m p =
    let own = moment_at w queues v e in
    let goes = events_of (front ++ m ∷ []) in
    lent-after join (world_after w queues v e) (queues_after queues v e.noted) (without_next records v) ms rest front back m
    (rest-is own f ms (front ++ m ∷ back) p)
    ∙ ap (λ (x : World). (x.node m.node).desk.lent) (sym (join w own.events goes))
    ∙ ap (λ (x : Moment). ((run w (x.events ++ goes)).node m.node).desk.lent) (first-is own f ms (front ++ m ∷ back) p)

pub lent : RunsJoin → (w : World) (queues : List (List ℕ)) (records : List (List Entry)) (front back : List Moment) (m : Moment)
    → IsWoven w queues records (front ++ m ∷ back)
    → m.lent ≡ ((run w (events_of (front ++ m ∷ []))).node m.node).desk.lent
lent join w queues records front back m woven =
    lent-after join w queues records (front ++ m ∷ back) woven front back m refl

-- ---- each entry is woven

-- the entries that are to come of a node, by the first of them
rest-of : (es : List Entry) (e : Entry) → next_of es ≡ Some e → es ≡ e ∷ drop 1 es
rest-of [] e h = absurd (cc h)
rest-of (x ∷ es) e h = let same : x ≡ e = cc h in ap (λ (y : Entry). y ∷ es) same

head-at : (records : List (List Entry)) (v : ℕ) → head_of (heads_of records) v ≡ next_of (slice_index_or records v [])
head-at [] v = refl
head-at (es ∷ records) zero = refl
head-at (es ∷ records) (suc v) = head-at records v

-- one that has a next entry has a place
same-place : (records : List (List Entry)) (v : ℕ) (e : Entry) → head_of (heads_of records) v ≡ Some e
    → slice_index_or (without_next records v) v [] ≡ drop 1 (slice_index_or records v [])
same-place [] v e h = absurd (cc h)
same-place (es ∷ records) zero e h = refl
same-place (es ∷ records) (suc v) e h = same-place records v e h

pub other-place : (records : List (List Entry)) (v u : ℕ) (es : List Entry) → v ≢ u
    → slice_index_or (slice_set records v es) u [] ≡ slice_index_or records u []
other-place records v u es n = grind (arith, common_steps)

own-place : (records : List (List Entry)) (v : ℕ) (e : Entry) (es : List Entry) → head_of (heads_of records) v ≡ Some e
    → es ≡ slice_index_or (without_next records v) v [] → e ∷ es ≡ slice_index_or records v []
own-place records v e es h m =
    ap (λ (l : List Entry). e ∷ l) (m ∙ same-place records v e h)
    ∙ sym (rest-of (slice_index_or records v []) e (sym (head-at records v) ∙ h))

pub same-node : (records : List (List Entry)) (u v : ℕ) (e : Entry) (es : List Entry) → u ≡ v → head_of (heads_of records) u ≡ Some e
    → es ≡ slice_index_or (without_next records u) v [] → e ∷ es ≡ slice_index_or records v []
same-node records u v e es s =
    subst (λ (n : ℕ). head_of (heads_of records) u ≡ Some e → es ≡ slice_index_or (without_next records u) n [] → e ∷ es ≡ slice_index_or records n [])
    s (own-place records u e es)

none-of : (es : List Entry) → next_of es ≡ None → [] ≡ es
none-of [] h = refl
none-of (x ∷ es) h = absurd (cc h)

pub same : (u v : ℕ) → (u == v) ≡ true → u ≡ v
same u v t = grind (arith, common_steps)

pub others : (u v : ℕ) → (u == v) ≡ false → u ≢ v
others u v t = grind (arith, common_steps)

pub complete : FrameStays → (w : World) (queues : List (List ℕ)) (records : List (List Entry)) (ms : List Moment) (v : ℕ)
    → IsWoven w queues records ms → v < w.net.nodes → entries_of v ms ≡ slice_index_or records v []
complete stays w queues records all v (NoneLeft none) l =
    none-of (slice_index_or records v []) (sym (head-at records v) ∙ none v l)
complete stays w queues records all v (Next {v = u} {e = e} {ms = ms} turn head rest) l =
    let after = world_after w queues u e in
    let below : v < after.net.nodes = omega (arith, (stays w (events_at w queues u e)).nodes, l) in
    let more = complete stays after (queues_after queues u e.noted) (without_next records u) ms v rest below in
    let by : (b : Bool) → (u == v) ≡ b → (if b then e ∷ entries_of v ms else entries_of v ms) ≡ slice_index_or records v [] =
    elim [
      | true ↦ λ t. same-node records u v e (entries_of v ms) (same u v t) head more
      | false ↦ λ t. more ∙ other-place records u v (drop 1 (slice_index_or records u [])) (others u v t)
    ] in
    by (u == v) refl
